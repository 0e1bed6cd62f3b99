-- Two posts of one mode, from making to retirement.
use Rattle.std.specs.Prelude.{◌≡◌, ℕ, List, [], ◌∷◌, ◌++◌, Some, None}
use Rattle.refusals.specs.Refusals.{first_no}
use Rattle.cipher.specs.Cipher.{Answer}
use Rattle.mode.specs.Mode.{Scheme}
use Rattle.promise.specs.Calls.{Read, Event, event}
use Rattle.promise.specs.Answers.{Making, making_questions}
use Rattle.promise.specs.Promises.{Remains, Promises, OutsideSeesOnlySizesAndVerdicts}
use Rattle.post.specs.Post.{making_of, told}
use Rattle.post.specs.declared.Reading.{Reading}
use Rattle.post.specs.declared.Retired.{Retired}
use Rattle.side_by_side.specs.declared.sides.Parts.{Parts}
use Rattle.side_by_side.specs.declared.sides.Refused.{Refused}
use Rattle.side_by_side.specs.declared.turns.Turn.{Turn}
use Rattle.side_by_side.specs.Turns.{transcript}

-- What a post is made of, from its parts and its key. answer, count and pending are the meanings of cipher and source.
abbrev pub making : {M C S : Type 0} → (C → Answer) → (C → ℕ) → (S → List (List ℕ)) → Parts M C S → (key : List ℕ) → Making
making answer count pending parts key = making_of answer count pending parts.cipher parts.source key parts.allowance

-- The transcript of a post's life: its turns in order, and last the reading that retiring gives.
-- Two turns and the retirement are three events.
abbrev pub whole : (before now : List Turn) → Reading → List Event
whole before now reading = transcript before now ++ (event Read (told reading) ∷ [])

-- What a retired post leaves of cipher and source: the cipher's answers and count, and the nonces to come.
abbrev pub remains : {M C S : Type 0} → (C → Answer) → (C → ℕ) → (S → List (List ℕ)) → Retired M C S → Remains
remains answer count pending r = record { cipher = answer r.cipher; count = count r.cipher; nonces = pending r.source }

-- Two posts were made, and kept all promises over their transcripts.
-- Two posts of Romulus-N, one on 40 rounds and one on 56, each of which sealed twice and opened once, are such a pair.
pub record SideBySide (m : Scheme) (g h : Making) (es ds : List Event) (r q : Remains) : Type 0 where
  pub first_made : first_no (making_questions g.key g.allowance) ≡ None
  pub second_made : first_no (making_questions h.key h.allowance) ≡ None
  pub first : Promises m g es r
  pub second : Promises m h ds q
  pub outside_sees_only_sizes_and_verdicts : OutsideSeesOnlySizesAndVerdicts m g h es ds

-- A making was refused, at the first question answered no of the first making's and then the second's, and all parts come back as they were.
-- With a good first key and a second of 15 bytes the refusal is KeyLength.
pub record HandedBack {M C D S R : Type 0} (one : Parts M C S) (key : List ℕ) (two : Parts M D R) (other_key : List ℕ) (e : Refused M C D S R) : Type 0 where
  pub refusal : first_no (making_questions key one.allowance ++ making_questions other_key two.allowance) ≡ Some e.refusal
  pub one_back : e.one ≡ one
  pub two_back : e.two ≡ two
