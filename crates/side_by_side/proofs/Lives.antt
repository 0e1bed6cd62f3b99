-- A post's turns and its retirement together.
use Rattle.std.proofs.Common.{◌≡◌, ℕ, List, [], ◌∷◌, ◌++◌, subst}
use Rattle.cipher.specs.Cipher.{Answer}
use Rattle.mode.specs.Mode.{Scheme}
use Rattle.promise.specs.Calls.{Read, Reply, Event, event}
use Rattle.promise.specs.Answers.{Making, Standing, fresh, Stepped, Run}
use Rattle.promise.specs.Promises.{Promises}
use Rattle.promise.proofs.Runs.{run_push}

-- from the making to the last reading
pub whole_run : (m : Scheme) (g : Making) (s : Standing) (es : List Event) (t : Standing) (a : Reply) → s ≡ fresh g → Run m s es t → Stepped m t Read a t → Run m (fresh g) (es ++ (event Read a ∷ [])) t
whole_run m g s es t a e r p = run_push m (fresh g) es t t Read a (subst (λ (z : Standing). Run m z es t) e r) p

-- the parts that the retirement hands on are those that the post had
pub handed_on : {C S : Type 0} (answer : C → Answer) (count : C → ℕ) (pending : S → List (List ℕ)) (m : Scheme) (g : Making) (es : List Event) (c d : C) (s r : S) → d ≡ c → r ≡ s →
    Promises m g es (record { cipher = answer c; count = count c; nonces = pending s }) → Promises m g es (record { cipher = answer d; count = count d; nonces = pending r })
handed_on answer count pending m g es c d s r e f h = rw (e, f) h
