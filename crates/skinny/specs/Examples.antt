-- Worked examples of the definitions, as one statement. Its proof is in proofs/.
use Rattle.std.specs.Prelude.{◌≡◌, [], ◌∷◌, map}
use Rattle.skinny.specs.Skinny.{s8, rc}

-- Three entries of S8, and the first seven round constants.
abbrev pub Examples : Type 0
Examples =
    (map s8 (0x00 ∷ 0x01 ∷ 0xff ∷ []) ≡ 0x65 ∷ 0x4c ∷ 0xff ∷ [])
    × (map rc (1 ∷ 2 ∷ 3 ∷ 4 ∷ 5 ∷ 6 ∷ 7 ∷ []) ≡ 0x01 ∷ 0x03 ∷ 0x07 ∷ 0x0f ∷ 0x1f ∷ 0x3e ∷ 0x3d ∷ [])
