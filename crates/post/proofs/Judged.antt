-- An opening that was judged fits its call.
use Rattle.std.proofs.Common.{◌≡◌, ℕ, Bool, List, length, Some, None, Ok, Option}
use Rattle.refusals.specs.declared.Refusal.{Refusal}
use Rattle.refusals.specs.Refusals.{after_asking}
use Rattle.mode.specs.Mode.{Scheme, Opened}
use Rattle.promise.specs.Calls.{Reply}
use Rattle.promise.specs.Answers.{Standing, OpenFits, verdict_reply}

pub judged_fits : (m : Scheme) (s : Standing) (nonce ad text tag out : List ℕ) (first : Option Refusal) (u : Unit {0}) (right : Bool) (written : List ℕ) (a : Reply) → after_asking first ≡ Ok u →
    Opened m s.cipher s.key nonce ad text tag right written → a ≡ verdict_reply (m.costs (length ad) (length text)) right written → OpenFits m s nonce ad text tag out first a
judged_fits m s nonce ad text tag out None u right written a e o p = (right, written, p, o)
judged_fits m s nonce ad text tag out (Some r) u right written a e o p = absurd cc
