use Rattle.std.proofs.Common.{◌≡◌, ◌≢◌, ℕ, ◌<◌, Bool, true, false, List, length, Decides, MatchBool, refl, arith, rules}
use Rattle.std.specs.Cmp.Lexicographic.{same_text, other_text}
use Rattle.std.specs.List.{AllWithin, Contains, HoldsAt}
use Rattle.std.proofs.lemmas.Bool.{false≢true}
use Rattle.std.proofs.lemmas.Iterator.{cases_from_any, YieldsList-from_slice}
use Rattle.nonces.proofs.sheet.stands.Goals as goal

decided : (r : Bool) (x : List ℕ) (xs : List (List ℕ)) → MatchBool r ((k : ℕ) × (k < length xs) × HoldsAt (λ y. y ≡ x) xs k) (AllWithin (λ y. y ≢ x) xs 0 (length xs)) → Decides r (Contains xs x)
decided true x xs h = ((λ _. (h.0, h.1, h.2 x)), (λ _. refl))
decided false x xs h = ((λ e. absurd (false≢true e)), (λ w. absurd (h w.0 x (omega arith) w.1 w.2)))

pub returns : goal.returns
returns c =
    decided _ c.args.pair.now c.args.pairs.now
    (cases_from_any _ _ _ (λ y. y ≡ c.args.pair.now) (λ y. y ≢ c.args.pair.now) c.any.ensures.ran (YieldsList-from_slice c.args.pairs.now cc) (λ x q k. same_text _ _ (search rules)) (λ x q k. (search rules, other_text _ _ (search rules))))
