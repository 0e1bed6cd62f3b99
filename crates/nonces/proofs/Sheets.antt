-- The pairs that a sheet is cut into, and their nonces.
use Rattle.std.proofs.Common.{◌≡◌, ℕ, suc, ◌/◌, ◌^◌, ◌<◌, List, [], ◌∷◌, length, map, get_or, take, drop, sym, refl, ap, ap₂, ◌∙◌, Fits, w64, arith}
use Rattle.std.specs.List.{AllByRecursion}
use Rattle.std.specs.Simd.{first_chunks}
use Rattle.nonces.specs.Nonces.{NoRepeats}
use Rattle.nonces.specs.Sources.{nonce_of, sheet_nonces}
use Rattle.nonces.specs.Proper.{big_endian_apart}
use Rattle.nonces.proofs.Repeats.{map_apart, unmap_apart}

-- two numbers of 64 bits
record Pair (p : List ℕ) : Type 0 where
  two : length p ≡ 2
  high : get_or p 0 0 < 2 ^ 64
  low : get_or p 1 0 < 2 ^ 64

both : (p : List ℕ) → length p ≡ 2 → p ≡ get_or p 0 0 ∷ get_or p 1 0 ∷ []
both [] e = absurd (omega arith)
both (a ∷ []) e = absurd (omega arith)
both (a ∷ (b ∷ [])) e = refl
both (a ∷ (b ∷ (c ∷ p))) e = absurd (omega arith)

same_pair : (p q : List ℕ) → Pair p → Pair q → nonce_of p ≡ nonce_of q → p ≡ q
same_pair p q h k e =
    let a : get_or p 0 0 ≡ get_or q 0 0 = big_endian_apart _ _ h.high k.high (ap (take 8) e) in
    let b : get_or p 1 0 ≡ get_or q 1 0 = big_endian_apart _ _ h.low k.low (ap (drop 8) e) in
    both p h.two ∙ ap₂ (λ (x y : ℕ). x ∷ y ∷ []) a b ∙ sym (both q k.two)

abbrev pub pairs : List ℕ → List (List ℕ)
pairs xs = first_chunks 2 (length xs / 2) xs

one_more : (x y : ℕ) (xs : List ℕ) → pairs (x ∷ y ∷ xs) ≡ (x ∷ y ∷ []) ∷ pairs xs
one_more x y xs = let e : length (x ∷ y ∷ xs) / 2 ≡ suc (length xs / 2) = omega arith in ap (λ (k : ℕ). first_chunks 2 k (x ∷ y ∷ xs)) e

all_pairs : (xs : List ℕ) → ((i : ℕ) → Fits w64 (get_or xs i 0)) → AllByRecursion Pair (pairs xs)
all_pairs [] h = tt
all_pairs (x ∷ []) h = tt
all_pairs (x ∷ (y ∷ xs)) h = rw (one_more x y xs) (record { two = refl; high = (let f = h 0 in omega arith); low = (let f = h 1 in omega arith) }, all_pairs xs (λ i. h (suc (suc i))))

-- the pairs of a sheet are all different exactly where its nonces are
pub pairs_apart : (xs : List ℕ) (ps : List (List ℕ)) → ps ≡ pairs xs → ((i : ℕ) → Fits w64 (get_or xs i 0)) → NoRepeats ps → NoRepeats (map nonce_of ps)
pairs_apart xs ps e h n = map_apart nonce_of Pair [] ps (rw e (all_pairs xs h)) same_pair n

pub nonces_apart : (xs : List ℕ) → NoRepeats (sheet_nonces xs) → NoRepeats (pairs xs)
nonces_apart xs n = unmap_apart nonce_of (pairs xs) n
