-- Each of the four rounds is one more of the definition's.
use Rattle.std.proofs.Common.{◌≡◌, ℕ, suc, ◌+◌, List, ap, ◌∙◌, arith}
use Rattle.skinny.specs.Skinny.{rc, round, rounds, round_tweakey}
use Rattle.skinny.proofs.encryption.four_rounds.Goals as goal

module _ (T b : List ℕ) where
  abbrev next : ℕ → List ℕ → List ℕ
  next n s = round (rc (suc n)) (round_tweakey T n) s

  more : (n m : ℕ) → suc n ≡ m → next n (rounds T b n) ≡ rounds T b m
  unfolding rounds
  more n m e = ap (rounds T b) e

  four : (n : ℕ) → next (n + 3) (next (n + 2) (next (n + 1) (next n (rounds T b n)))) ≡ rounds T b (n + 4)
  four n =
      ap (next (n + 3)) (ap (next (n + 2)) (ap (next (n + 1)) (more n (n + 1) (omega arith)) ∙ more (n + 1) (n + 2) (omega arith)) ∙ more (n + 2) (n + 3) (omega arith))
      ∙ more (n + 3) (n + 4) (omega arith)

pub returns : goal.returns
returns c T b n ec ek es = rw (c.round.ensures, c.round-s3.ensures, c.round-s2.ensures, c.round-s1.ensures, ec, ek, es) (four T b n)
