-- The 56-bit block counter, a shift register.
use Rattle.std.specs.Prelude.{ℕ, zero, suc, ◌*◌, ◌/◌, ◌%◌, ◌^◌, List, [], ◌∷◌, bit_xor}

-- One step: the 56 bits move up one, and a 1 that falls out comes back as ⊕ 0x95 on the lowest byte.
-- stepped 1 is 2, and stepped (2 ^ 55) is 0x95.
abbrev pub stepped : ℕ → ℕ
stepped c = bit_xor (c * 2 % 2 ^ 56) (c / 2 ^ 55 % 2 * 0x95)

-- A counter value, n steps on. advanced 3 1 is 8.
abbrev pub advanced : ℕ → ℕ → ℕ
advanced zero c = c
advanced (suc n) c = advanced n (stepped c)

-- The counter after i steps from its first value, 1. counter 8 is 2 ^ 8, and counter 56 is 0x95.
abbrev pub counter : ℕ → ℕ
counter i = advanced i 1

-- The seven bytes of a counter value, the lowest first.
-- counter_bytes (counter 8) is 0 ∷ 1 ∷ 0 ∷ 0 ∷ 0 ∷ 0 ∷ 0 ∷ [].
abbrev pub counter_bytes : ℕ → List ℕ
counter_bytes c =
    (c % 256) ∷ (c / 2 ^ 8 % 256) ∷ (c / 2 ^ 16 % 256) ∷ (c / 2 ^ 24 % 256) ∷ (c / 2 ^ 32 % 256) ∷ (c / 2 ^ 40 % 256) ∷ (c / 2 ^ 48 % 256) ∷ []
