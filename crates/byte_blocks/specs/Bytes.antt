-- Texts of bytes, as lists of numbers: exclusive or, and the map G.
use Rattle.std.specs.Prelude.{ℕ, ◌+◌, ◌*◌, ◌/◌, ◌%◌, List, [], ◌∷◌, map, bit_xor}

-- The bytes of the first text, each ⊕ the byte of the second at its place, where there is one.
-- xors (1 ∷ 2 ∷ []) (3 ∷ []) is 2 ∷ 2 ∷ [].
abbrev pub xors : List ℕ → List ℕ → List ℕ
xors [] ys = []
xors (x ∷ xs) [] = x ∷ xs
xors (x ∷ xs) (y ∷ ys) = bit_xor x y ∷ xors xs ys

-- G on a byte with the bits x7 (highest) to x0: (x7 ⊕ x0, x7, x6, x5, x4, x3, x2, x1).
-- g_byte 0x0f is 0x87, and g_byte 0x80 is 0xc0.
abbrev pub g_byte : ℕ → ℕ
g_byte x = x / 2 + 128 * ((x / 128 + x) % 2)

-- G on each byte of a block.
-- g_of (0x0f ∷ 0x80 ∷ []) is 0x87 ∷ 0xc0 ∷ [].
abbrev pub g_of : List ℕ → List ℕ
g_of s = map g_byte s
