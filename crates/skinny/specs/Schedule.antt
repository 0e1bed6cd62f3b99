-- Where the tweakey schedule stands, and the round constants in fours. Inner functions speak of it; no public contract does.
use Rattle.std.specs.Prelude.{◌≡◌, ℕ, suc, ◌+◌, ◌*◌, ◌/◌, List, [], ◌∷◌, map}
use Rattle.std.specs.List.{range_with_len}
use Rattle.skinny.specs.Skinny.{rc, tk1, tk2, tk3, round_tweakey}
use Rattle.skinny.specs.declared.tweakey.Thirds.{Thirds}

-- The code's thirds are those of round n under the tweakey T. In round 0 they are the thirds of T as they stand.
pub record InRound (T : List ℕ) (n : ℕ) (t : Thirds) : Type 0 where
  pub first : t.first ≡ tk1 T n
  pub second : t.second ≡ tk2 T n
  pub third : t.third ≡ tk3 T n

-- The round tweakeys of round n and the next three: four_tweakeys T 0 has those of rounds 0 to 3.
abbrev pub four_tweakeys : List ℕ → ℕ → List (List ℕ)
four_tweakeys T n = round_tweakey T n ∷ round_tweakey T (n + 1) ∷ round_tweakey T (n + 2) ∷ round_tweakey T (n + 3) ∷ []

-- The constants of round n and the next three: four_constants 0 is 0x01 ∷ 0x03 ∷ 0x07 ∷ 0x0f ∷ [].
abbrev pub four_constants : ℕ → List ℕ
four_constants n = rc (suc n) ∷ rc (suc (n + 1)) ∷ rc (suc (n + 2)) ∷ rc (suc (n + 3)) ∷ []

-- The constants of the first n rounds in fours, for an n that fours make up: 40 rounds have ten of them.
abbrev pub constants_in_fours : ℕ → List (List ℕ)
constants_in_fours n = map (λ i. four_constants (4 * i)) (range_with_len 0 (n / 4))
