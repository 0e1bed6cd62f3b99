-- Where right and wrong openings cost the same.
use Rattle.std.proofs.Common.{◌≡◌, ℕ, Bool, true, false, cond, refl}

pub cond_same : (right : Bool) (cost : ℕ) → cond right cost cost ≡ cost
cond_same true cost = refl
cond_same false cost = refl
