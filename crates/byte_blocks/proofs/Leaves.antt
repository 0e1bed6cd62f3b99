-- Laws of bytes and blocks.
use Rattle.std.proofs.Common.{◌≡◌, ℕ, suc, ◌+◌, ◌-◌, ◌*◌, ◌/◌, ◌%◌, ◌<◌, ◌≤◌, min, eqb, ◌⊎◌, List, [], ◌∷◌, ◌++◌, length, get_or, take, drop, set, replicate, Decides, sym, refl, ap, ◌∙◌, inl, inr, ⊎_elim, append_assoc, arith}
use lib.Bits.{bit_xor, bit_or, bit_and, xor_assoc, xor_self, xor_zero_l, xor_zero_r, or_zero_r, or_add_and, and_le_l, and_le_r}
use Rattle.std.proofs.lemmas.List.{take_more_set, drop-set-lt, drop_more, take_all, drop_all, drop-replicate, set-append_right, replicate_more, set_at, set_split, length-replicate, append-nil, take-append-drop, length-take-le, take_min, take-take}
use Rattle.std.proofs.lemmas.Bool.{cases_lt, lt-ltb, le-ltb, eqb-true, eq-eqb}
use Rattle.std.specs.List.{fold, zip}
use Rattle.byte_blocks.proofs.Computed.{at_each}
use Rattle.byte_blocks.specs.Bytes.{xors, g_byte}
use Rattle.byte_blocks.specs.Block.{ended, padded, first_bytes}

-- G on a byte as the code has it
pub g_code : (x : ℕ) → x < 256 → bit_or (x / 2) (((bit_xor (x / 128) (bit_and x 1)) * 128) % 256) ≡ g_byte x
g_code = at_each (λ x. bit_or (x / 2) (((bit_xor (x / 128) (bit_and x 1)) * 128) % 256)) g_byte 256 refl

-- ---- xors
-- one byte more of a loop that adds x to s
pub xors_more : (s x : List ℕ) (i : ℕ) → i < length s → i < length x →
    take (i + 1) (set s i (bit_xor (get_or s i 0) (get_or x i 0))) ++ xors (drop (i + 1) (set s i (bit_xor (get_or s i 0) (get_or x i 0)))) (drop (i + 1) x)
    ≡ take i s ++ xors (drop i s) (drop i x)
xors_more s x i h l =
    let v : ℕ = bit_xor (get_or s i 0) (get_or x i 0) in
    let lt : i < i + 1 = omega arith in
    rw (take_more_set s i v h, drop-set-lt (i + 1) s i v lt, drop_more s i 0 h, drop_more x i 0 l) (append_assoc (take i s) (v ∷ []) (xors (drop (i + 1) s) (drop (i + 1) x)))

xors_none : (s : List ℕ) → xors s [] ≡ s
xors_none [] = refl
xors_none (a ∷ s) = refl

-- the loop's end: one of the two has no byte left
pub xors_all : (s x : List ℕ) (i : ℕ) → (length s ≤ i) ⊎ (length x ≤ i) → take i s ++ xors (drop i s) (drop i x) ≡ s
xors_all s x i (inl h) = rw (take_all i s h, drop_all i s h) (append-nil s)
xors_all s x i (inr h) = rw (drop_all i x h, xors_none (drop i s)) (take-append-drop i s)

pub length-xors : (s x : List ℕ) → length (xors s x) ≡ length s
length-xors [] x = refl
length-xors (a ∷ s) [] = refl
length-xors (a ∷ s) (b ∷ x) = ap suc (length-xors s x)

-- ---- padding
-- the front of a text, copied over a block of w zeros
pub front_put : (w : ℕ) (x y : List ℕ) (n : ℕ) → n ≡ min (length x) w → y ≡ take n x → y ++ drop n (replicate w 0) ≡ first_bytes w x
unfolding first_bytes
front_put w x y n m e =
    let z : ℕ = 0 in
    let t : take n x ≡ take w x = ap (λ (k : ℕ). take k x) (omega arith) ∙ take_min w x in
    let v : w - n ≡ w - length x = omega arith in
    rw (e, drop-replicate n w z, t, v)

-- a byte written over the last of a block that begins with a text
pub end_put : (x : List ℕ) (last : ℕ) → set (first_bytes 16 x) 15 last ≡ ended x last
unfolding ended first_bytes
end_put x last =
    ⊎_elim
    (λ (h : length x < 16).
    let z : ℕ = 0 in
    let n : ℕ = 15 - length x in
    let m : 16 - length x ≡ n + 1 = omega arith in
    rw (take_all 16 x (omega arith), take_all 15 x (omega arith), m, ← replicate_more n z, set-append_right x (replicate n z ++ (z ∷ [])) (length x) 15 last refl (omega arith), set_at (replicate n z) z [] last n (length-replicate n z)))
    (λ (h : 16 ≤ length x).
    let n : 16 - length x ≡ 0 = omega arith in
    let m : 15 - length x ≡ 0 = omega arith in
    let l : length (take 16 x) ≡ 16 = length-take-le 16 x h in
    rw (n, m, append-nil (take 16 x), set_split (take 16 x) 15 last (omega arith), take-take 15 16 x (omega arith), drop_all 16 (take 16 x) (omega arith)))
    (cases_lt (length x) 16)

pub pad_short : (x : List ℕ) → length x < 16 → ended x (length x) ≡ padded x
unfolding ended padded
pad_short x h = rw (lt-ltb (length x) 16 h, take_all 15 x (omega arith))

pub pad_whole : (x : List ℕ) → 16 ≤ length x → take 16 x ≡ padded x
unfolding padded
pad_whole x h = rw (le-ltb (length x) 16 h)

-- ---- adding twice
xor_twice : (x y : ℕ) → bit_xor (bit_xor x y) y ≡ x
xor_twice x y = xor_assoc x y y ∙ ap (bit_xor x) (xor_self y) ∙ xor_zero_r x

pub xors_twice : (x y : List ℕ) → xors (xors x y) y ≡ x
xors_twice [] y = refl
xors_twice (a ∷ x) [] = refl
xors_twice (a ∷ x) (b ∷ y) = rw (xor_twice a b, xors_twice x y)

-- ---- comparing
or_none : (a b : ℕ) → bit_or a b ≡ 0 → (a ≡ 0) × (b ≡ 0)
or_none a b e = (omega (arith, or_add_and a b, and_le_r a b), omega (arith, or_add_and a b, and_le_l a b))

xor_none : (x y : ℕ) → bit_xor x y ≡ 0 → x ≡ y
xor_none x y e = sym (xor_twice x y) ∙ ap (λ (z : ℕ). bit_xor z y) e ∙ xor_zero_l y

-- what the bytes of two texts differ in, added to what was seen before
abbrev pub differing : ℕ → ℕ × ℕ → ℕ
differing d p = bit_or d (bit_xor p.0 p.1)

abbrev pub differ : ℕ → List ℕ → List ℕ → ℕ
differ d a b = fold differing d (zip a b)

none_differ : (a b : List ℕ) (d : ℕ) → length a ≡ length b → differ d a b ≡ 0 → (d ≡ 0) × (a ≡ b)
none_differ [] [] d l e = (e, refl)
none_differ [] (y ∷ b) d l e = search l
none_differ (x ∷ a) [] d l e = search l
none_differ (x ∷ a) (y ∷ b) d l e =
    let t = none_differ a b (differing d (x, y)) (omega (arith, l)) e in
    let h = or_none d (bit_xor x y) t.0 in
    (h.0, rw (xor_none x y h.1, t.1))

same_differ : (a : List ℕ) (d : ℕ) → differ d a a ≡ d
same_differ [] d = refl
same_differ (x ∷ a) d = same_differ a (differing d (x, x)) ∙ ap (bit_or d) (xor_self x) ∙ or_zero_r d

-- no difference at all tells that they are equal
pub decided : (a b : List ℕ) → length a ≡ length b → Decides (eqb (differ 0 a b) 0) (a ≡ b)
decided a b l = (
  (λ e. (none_differ a b 0 l (eqb-true (differ 0 a b) 0 e)).1),
  (λ e. eq-eqb (differ 0 a b) 0 (ap (differ 0 a) (sym e) ∙ same_differ a 0)),
)
