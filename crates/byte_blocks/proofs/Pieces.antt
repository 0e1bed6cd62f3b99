-- Blocks are the text, cut.
use Rattle.std.proofs.Common.{◌≡◌, ℕ, zero, suc, ◌-◌, ◌*◌, ◌/◌, ◌<◌, ◌≤◌, List, [], ◌∷◌, ◌++◌, length, take, drop, sym, refl, ap, ◌∙◌, add-one, arith}
use Rattle.std.proofs.lemmas.List.{append-nil, take-append-drop, drop-drop, length-drop}
use Rattle.byte_blocks.specs.Block.{cut, parts, blocks, joined, last_of, BlocksCut}

joins : (j : ℕ) (xs : List ℕ) → joined (cut 16 j xs) ≡ xs
joins zero xs = append-nil xs
joins (suc j) xs = ap (λ (r : List ℕ). take 16 xs ++ r) (joins j (drop 16 xs)) ∙ take-append-drop 16 xs

counts : (j : ℕ) (xs : List ℕ) → length (cut 16 j xs) ≡ suc j
counts zero xs = refl
counts (suc j) xs = ap suc (counts j (drop 16 xs))

skips : (x : List ℕ) (j : ℕ) (xs : List ℕ) → last_of (x ∷ cut 16 j xs) ≡ last_of (cut 16 j xs)
skips x zero xs = refl
skips x (suc j) xs = refl

lasts : (j : ℕ) (xs : List ℕ) → last_of (cut 16 j xs) ≡ drop (j * 16) xs
lasts zero xs = refl
lasts (suc j) xs =
    skips (take 16 xs) j (drop 16 xs) ∙ lasts j (drop 16 xs) ∙ drop-drop (j * 16) 16 xs ∙ ap (λ (n : ℕ). drop n xs) (omega arith)

pub blocks_cut : (xs : List ℕ) → BlocksCut xs
unfolding parts
blocks_cut xs =
    let j : ℕ = (length xs - 1) / 16 in
    record { whole = joins j xs; counted = counts j xs ∙ sym (add-one j); last = ap length (lasts j xs) ∙ length-drop (j * 16) xs }

-- a text of more than a block: its first block, and the blocks of the rest
pub blocks_more : (xs : List ℕ) → 16 < length xs → blocks xs ≡ take 16 xs ∷ blocks (drop 16 xs)
unfolding parts
blocks_more xs h =
    let l : length (drop 16 xs) ≡ length xs - 16 = length-drop 16 xs in
    let e : (length xs - 1) / 16 ≡ suc ((length (drop 16 xs) - 1) / 16) = omega arith in
    ap (λ (n : ℕ). cut 16 n xs) e

-- a text of at most a block
pub blocks_last : (xs : List ℕ) → length xs ≤ 16 → blocks xs ≡ xs ∷ []
unfolding parts
blocks_last xs h =
    let e : (length xs - 1) / 16 ≡ 0 = omega arith in
    ap (λ (n : ℕ). cut 16 n xs) e
