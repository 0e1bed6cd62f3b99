-- One message sealed over and over by a post, into the same two output places.
use Rattle.std.specs.Prelude.{◌≡◌, List, [], ℕ, zero, suc, ◌^◌, ◌<◌, codes, length, get_or}
use Rattle.refusals.specs.Refusals.{first_no}
use Rattle.skinny.specs.Skinny.{skinny}
use Rattle.mode.specs.Mode.{Scheme}
use Rattle.nonces.specs.Sources.{counted}
use Rattle.promise.specs.Calls.{Seal, Reply, Gave, Told, event, number_told}
use Rattle.promise.specs.Answers.{Making, Standing, questions, seal_reply, onward}

-- How a post stands between two seals, and what the output places hold then.
pub record Between : Type 0 where
  pub post : Standing
  pub out : List ℕ
  pub tag : List ℕ

-- The same, from its parts.
abbrev pub between : Standing → (out tag : List ℕ) → Between
between s out tag = record { post = s; out = out; tag = tag }

-- What a reply wrote into the output place with this index: 0 is the ciphertext's, 1 the tag's.
abbrev pub written_at : ℕ → Reply → List ℕ
written_at i (Gave number nonce cost written) = get_or written i []
written_at i (Told left sealed opened wrong) = []

module _ (m : Scheme) (ad message : List ℕ) where
  -- What the next seal answers, of this message into the places as they are.
  abbrev pub next_reply : Between → Reply
  next_reply b = seal_reply m b.post ad message b.out b.tag (first_no (questions m b.post (Seal ad message b.out b.tag)))

  -- How post and places stand one reply further.
  abbrev pub moved_by : Between → Reply → Between
  moved_by b a = record { post = onward b.post (event (Seal ad message b.out b.tag) a); out = written_at 0 a; tag = written_at 1 a }

  -- How they stand after so many seals: after 0 as before.
  abbrev pub after : ℕ → Between → Between
  after zero b = b
  after (suc n) b = moved_by (after n b) (next_reply (after n b))

  -- So many seals were made from b on, and led to c; each number told stands in its place among the answers.
  -- Of three answers all are 0 where three nonces and enough of the allowance were left, and the places have lawful sizes.
  pub record SealedOver (b c : Between) (answers : List ℕ) : Type 0 where
    pub ends : c ≡ after (length answers) b
    pub numbers : (k : ℕ) → k < length answers → get_or answers k 0 ≡ number_told (next_reply (after k b))

-- A post of the bench: Skinny with 40 rounds, as many nonces as are asked for, and the largest allowance.
abbrev pub making : (key : List ℕ) → (amount : ℕ) → Making
making key amount = record { cipher = skinny 40; count = 0; key = key; nonces = counted (codes "the desk") 0 amount; allowance = 2 ^ 40 }
