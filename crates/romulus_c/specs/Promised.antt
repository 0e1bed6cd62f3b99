-- What holds over all calls of a post that a C host makes and keeps.
use Rattle.std.specs.Prelude.{◌≡◌, List, [], ◌∷◌}
use Rattle.refusals.specs.Refusals.{first_no}
use Rattle.promise.specs.Calls.{Event, event}
use Rattle.promise.specs.Promises.{Remains, Promises, OutsideSeesOnlySizesAndVerdicts}
use Rattle.romulus_c.specs.declared.kept.RomulusPost.{RomulusPost}
use Rattle.romulus_c.specs.Kept.{scheme_of, standing_of, kept_questions, making_of, Made, CallTold}

-- Calls one after the other, each on what the one before it left. Without a call what is kept stays.
abbrev pub KeptRun : RomulusPost → List Event → RomulusPost → Type 0
KeptRun p [] p' = p' ≡ p
KeptRun p (event c a ∷ es) p' = (q : RomulusPost) × CallTold p c (first_no (kept_questions p)) a q × KeptRun q es p'

-- What is left of cipher and nonces, by what is kept.
abbrev pub remains : RomulusPost → Remains
remains p = record { cipher = (standing_of p).cipher; count = (standing_of p).count; nonces = (standing_of p).nonces }

-- Whatever the calls are, a post that was made keeps all promises of a post of the library.
-- After three taken seals, with anything between them, the nonces told are the first three of its count.
abbrev pub EveryKeptRun : Type 0
EveryKeptRun =
    (made p : RomulusPost) (es : List Event) (p' : RomulusPost) → Made made p → KeptRun p es p' →
    Promises (scheme_of made.mode) (making_of made) es (remains p')

-- And of two posts of one mode the outside sees only sizes and verdicts.
abbrev pub EveryTwoKeptRuns : Type 0
EveryTwoKeptRuns =
    (made p : RomulusPost) (es : List Event) (p' : RomulusPost) → Made made p → KeptRun p es p' →
    (made₂ q : RomulusPost) (ds : List Event) (q' : RomulusPost) → Made made₂ q → KeptRun q ds q' → made.mode ≡ made₂.mode →
    OutsideSeesOnlySizesAndVerdicts (scheme_of made.mode) (making_of made) (making_of made₂) es ds
