-- Skinny-128-384: a block of 16 cells of one byte, four to a row, under a tweakey of 48 bytes.
-- Bits are counted from 0, the lowest; cells, rows and rounds from 0 too.
use Rattle.std.specs.Prelude.{ℕ, zero, suc, ◌+◌, ◌-◌, ◌*◌, ◌/◌, ◌%◌, ◌^◌, max, cond, List, [], ◌∷◌, take, drop, bit_xor, nat_lt, slice_index}

-- ---- bytes by their bits

-- Bit k of x.
-- bit 0x0a 1 is 1, and bit 0x0a 0 is 0.
abbrev pub bit : ℕ → ℕ → ℕ
bit x k = x / 2 ^ k % 2

-- The byte with these bits, the highest first. byte 1 0 1 0 0 0 0 0 is 0xa0.
abbrev pub byte : ℕ → ℕ → ℕ → ℕ → ℕ → ℕ → ℕ → ℕ → ℕ
byte x7 x6 x5 x4 x3 x2 x1 x0 = ((((((x7 * 2 + x6) * 2 + x5) * 2 + x4) * 2 + x3) * 2 + x2) * 2 + x1) * 2 + x0

-- NOR of two bits: nor 0 0 is 1, and nor of any other two is 0.
abbrev pub nor : ℕ → ℕ → ℕ
nor a b = 1 - max a b

-- ---- the S-box S8

-- Bit 4 changes by ⊕ NOR of bits 7 and 6, and bit 0 by ⊕ NOR of bits 3 and 2.
-- toggled 0x00 is 0x11, and toggled 0xff is 0xff.
unfoldable pub toggled : ℕ → ℕ
toggled x =
    byte (bit x 7) (bit x 6) (bit x 5) (bit_xor (bit x 4) (nor (bit x 7) (bit x 6)))
    (bit x 3) (bit x 2) (bit x 1) (bit_xor (bit x 0) (nor (bit x 3) (bit x 2)))

-- The bits in the order x2, x1, x7, x6, x4, x0, x3, x5. reordered 0x80 is 0x20.
unfoldable pub reordered : ℕ → ℕ
reordered x = byte (bit x 2) (bit x 1) (bit x 7) (bit x 6) (bit x 4) (bit x 0) (bit x 3) (bit x 5)

-- Bits 1 and 2 change places. swapped 0x02 is 0x04.
unfoldable pub swapped : ℕ → ℕ
swapped x = byte (bit x 7) (bit x 6) (bit x 5) (bit x 4) (bit x 3) (bit x 1) (bit x 2) (bit x 0)

-- S8: four steps of toggling and reordering, the last of which swaps instead. s8 0x00 is 0x65, s8 0x01 is 0x4c.
unfoldable pub s8 : ℕ → ℕ
unfolding toggled reordered swapped
s8 x = swapped (toggled (reordered (toggled (reordered (toggled (reordered (toggled x)))))))

-- ---- the round constants

-- One step: the six bits move up one, and the new lowest is bit 5 ⊕ bit 4 ⊕ 1. next_constant 0x1f is 0x3e.
unfoldable pub next_constant : ℕ → ℕ
next_constant c = (c * 2 + bit_xor (bit_xor (bit c 5) (bit c 4)) 1) % 64

-- The constant after n steps from 0. The first round has rc 1, which is 0x01; rc 6 is 0x3e.
unfoldable pub rc : ℕ → ℕ
unfolding next_constant
rc zero = 0
rc (suc n) = next_constant (rc n)

-- ---- blocks

-- Cell i of a block. cell (7 ∷ 9 ∷ []) 1 is 9.
abbrev pub cell : List ℕ → ℕ → ℕ
cell s i = slice_index s i

-- The block whose cell i is f i. block (λ i. i) has the cells 0 to 15.
abbrev pub block : (ℕ → ℕ) → List ℕ
block f =
    f 0 ∷ f 1 ∷ f 2 ∷ f 3 ∷ f 4 ∷ f 5 ∷ f 6 ∷ f 7 ∷ f 8 ∷ f 9 ∷ f 10 ∷ f 11 ∷ f 12 ∷ f 13 ∷ f 14 ∷ f 15 ∷ []

-- The block whose cell i is cell p(i) of t, for a list p of places. Where p begins with 9, the new cell 0 is the old cell 9.
abbrev pub moved : List ℕ → List ℕ → List ℕ
moved p t = block (λ i. cell t (cell p i))

-- ---- the tweakey schedule

-- The tweakey permutation: new cell 0 is old cell 9, new cell 1 old cell 15.
unfoldable pub permuted : List ℕ → List ℕ
permuted = moved (9 ∷ 15 ∷ 8 ∷ 13 ∷ 10 ∷ 14 ∷ 12 ∷ 11 ∷ 0 ∷ 1 ∷ 2 ∷ 3 ∷ 4 ∷ 5 ∷ 6 ∷ 7 ∷ [])

-- The LFSR (shift register with feedback) of TK2 on one cell: x6, x5, x4, x3, x2, x1, x0, x7 ⊕ x5. lfsr2 0x80 is 0x01, lfsr2 0xa0 is 0x40.
unfoldable pub lfsr2 : ℕ → ℕ
lfsr2 x = byte (bit x 6) (bit x 5) (bit x 4) (bit x 3) (bit x 2) (bit x 1) (bit x 0) (bit_xor (bit x 7) (bit x 5))

-- The LFSR of TK3 on one cell: x0 ⊕ x6, x7, x6, x5, x4, x3, x2, x1. lfsr3 0x01 is 0x80, lfsr3 0x41 is 0x20.
unfoldable pub lfsr3 : ℕ → ℕ
lfsr3 x = byte (bit_xor (bit x 0) (bit x 6)) (bit x 7) (bit x 6) (bit x 5) (bit x 4) (bit x 3) (bit x 2) (bit x 1)

-- f on the upper two rows, cells 0 to 7. on_upper lfsr2 makes of sixteen cells 0x01 eight of 0x02 and eight of 0x01.
unfoldable pub on_upper : (ℕ → ℕ) → List ℕ → List ℕ
on_upper f t = block (λ i. cond (nat_lt i 8) (f (cell t i)) (cell t i))

-- A third t of the tweakey after n updates: each permutes the cells, then puts those of the upper two rows through the LFSR f.
-- By lfsr2 the cells 0 to 15 become, after one update, 18, 30, 16, 26, 20, 28, 24, 22 and then 0 to 7.
unfoldable pub updated : (ℕ → ℕ) → List ℕ → ℕ → List ℕ
updated f t zero = t
updated f t (suc n) = on_upper f (permuted (updated f t n))

-- TK1 of the tweakey T in round n: its first third, without an LFSR. The cells 0 to 15 are 9, 15, 8, 13, 10, 14, 12, 11, 0 to 7 in round 1.
unfoldable pub tk1 : List ℕ → ℕ → List ℕ
tk1 T n = updated (λ x. x) (take 16 T) n

-- TK2: the second third. Sixteen cells 2 are eight of 4 and eight of 2 in round 1.
unfoldable pub tk2 : List ℕ → ℕ → List ℕ
tk2 T n = updated lfsr2 (take 16 (drop 16 T)) n

-- TK3: the last third. Sixteen cells 4 are eight of 2 and eight of 4 in round 1.
unfoldable pub tk3 : List ℕ → ℕ → List ℕ
tk3 T n = updated lfsr3 (take 16 (drop 32 T)) n

-- The round tweakey of round n: TK1 ⊕ TK2 ⊕ TK3 in the upper two rows, cells 0 to 7.
-- With 0 to 15 as first third and zeros as the others, round 0 has 0 to 7, and round 1 has 9, 15, 8, 13, 10, 14, 12, 11.
unfoldable pub round_tweakey : List ℕ → ℕ → List ℕ
round_tweakey T n = take 8 (block (λ i. bit_xor (bit_xor (cell (tk1 T n) i) (cell (tk2 T n) i)) (cell (tk3 T n) i)))

-- ---- one round

-- SubCells: each cell goes through S8. Sixteen cells 0x00 become sixteen of 0x65.
unfoldable pub sub_cells : List ℕ → List ℕ
sub_cells s = block (λ i. s8 (cell s i))

-- AddConstants: cell 0 takes ⊕ the low four bits of the constant c, cell 4 its high two, and cell 8 the number 2.
-- Of zeros, add_constants 0x3e makes 0x0e in cell 0, 0x03 in cell 4, 0x02 in cell 8, and zeros.
unfoldable pub add_constants : ℕ → List ℕ → List ℕ
add_constants c s = block (λ i. bit_xor (cell (c % 16 ∷ 0 ∷ 0 ∷ 0 ∷ c / 16 ∷ 0 ∷ 0 ∷ 0 ∷ 2 ∷ []) i) (cell s i))

-- AddRoundTweakey: cells 0 to 7 take ⊕ those of the round tweakey k.
-- Of sixteen cells 1 a round tweakey of eight cells 5 makes eight of 4 and eight of 1.
unfoldable pub add_round_tweakey : List ℕ → List ℕ → List ℕ
add_round_tweakey k s = block (λ i. cond (nat_lt i 8) (bit_xor (cell k i) (cell s i)) (cell s i))

-- ShiftRows: row r rotates right by r cells. The cells 0 to 15 become 0 1 2 3, 7 4 5 6, 10 11 8 9, 13 14 15 12.
unfoldable pub shift_rows : List ℕ → List ℕ
shift_rows = moved (0 ∷ 1 ∷ 2 ∷ 3 ∷ 7 ∷ 4 ∷ 5 ∷ 6 ∷ 10 ∷ 11 ∷ 8 ∷ 9 ∷ 13 ∷ 14 ∷ 15 ∷ 12 ∷ [])

-- A column (p, q, r, s), from the top, becomes (p ⊕ r ⊕ s, p, q ⊕ r, p ⊕ r).
-- column 1 2 4 8 is 13 ∷ 1 ∷ 6 ∷ 5 ∷ [].
abbrev pub column : ℕ → ℕ → ℕ → ℕ → List ℕ
column p q r s = bit_xor (bit_xor p r) s ∷ p ∷ bit_xor q r ∷ bit_xor p r ∷ []

-- MixColumns: each column so. Rows of 1, 2, 4 and 8 become rows of 13, 1, 6 and 5.
unfoldable pub mix_columns : List ℕ → List ℕ
mix_columns s =
    block (λ i. cell (column (cell s (i % 4)) (cell s (4 + i % 4)) (cell s (8 + i % 4)) (cell s (12 + i % 4))) (i / 4))

-- A round with the constant c and the round tweakey k.
-- With c = 1 and k zeros, a block of zeros becomes 64 65 67 65, 64 65 65 65, 00 00 02 00, 01 00 02 00 (hexadecimal, row by row).
unfoldable pub round : ℕ → List ℕ → List ℕ → List ℕ
round c k s = mix_columns (shift_rows (add_round_tweakey k (add_constants c (sub_cells s))))

-- The first n rounds on the block b under the tweakey T: none leave b as it is; one, all of zeros, gives the block above.
unfoldable pub rounds : List ℕ → List ℕ → ℕ → List ℕ
rounds T b zero = b
rounds T b (suc n) = round (rc (suc n)) (round_tweakey T n) (rounds T b n)

-- Skinny-128-384 with n rounds: the answer for the block b under the tweakey T.
-- skinny 40 of zeros under zeros is 4c ed 01 d2 0a 15 89 53 d0 96 8f 3a 1c e1 90 bc (hexadecimal).
unfoldable pub skinny : ℕ → List ℕ → List ℕ → List ℕ
skinny n T b = rounds T b n
