-- The pairs of data and message, text by text.
use Rattle.std.proofs.Common.{◌≡◌, ℕ, zero, suc, ◌+◌, ◌-◌, ◌/◌, ◌%◌, ◌<◌, ◌≤◌, List, [], ◌∷◌, ◌++◌, map, length, sym, refl, ap, ◌∙◌, add-one, arith}
use Rattle.std.proofs.lemmas.List.{length-map, length-append, append-nil, take_at, drop_at}
use Rattle.std.proofs.lemmas.Bool.Decides.{nat_tests}
use Rattle.byte_blocks.specs.Bytes.{xors}
use Rattle.byte_blocks.specs.Counter.{stepped, advanced, counter}
use Rattle.byte_blocks.specs.Block.{padded, parts, blocks, block_count, zero_block}
use Rattle.byte_blocks.proofs.Pieces.{blocks_cut, blocks_more, blocks_last}
use Rattle.cipher.specs.Cipher.{Answer, enciphered}
use Rattle.passes.specs.declared.Direction.{Direction}
use Rattle.passes.specs.Passes.{absorbed, walked}
use Rattle.romulus_m.specs.ModeM.{paired, gathered, text_calls}
use Rattle.romulus_m.specs.Joined.{joined}

-- ---- the counter
pub advanced_more : (a b n c : ℕ) → n ≡ b + a → advanced a (advanced b c) ≡ advanced n c
advanced_more a zero n c e =
    let h : a ≡ n = omega arith in
    ap (λ (j : ℕ). advanced j c) h
advanced_more a (suc b) n c e =
    let h : n ≡ suc (b + a) = omega arith in
    rw h (advanced_more a b (b + a) (stepped c) refl)

stepped_after : (n : ℕ) → stepped (counter n) ≡ advanced n 2
stepped_after n = advanced_more 1 n (n + 1) 1 refl ∙ sym (advanced_more n 1 (n + 1) 1 (omega arith))

-- ---- pairs
module _ (f : Answer) (k : List ℕ) where
  paired_zero : (c : ℕ) (s : List ℕ) (xs : List (List ℕ)) → paired f k zero c s xs ≡ absorbed f k 44 c s xs
  paired_zero c s [] = refl
  paired_zero c s (x ∷ []) = refl
  paired_zero c s (x ∷ (y ∷ rest)) = paired_zero (stepped (stepped c)) (enciphered f k y 44 c (xors s x)) rest

  even : (h : ℕ) (ds ms : List (List ℕ)) (c : ℕ) (s : List ℕ) → length ds ≡ h + h →
      paired f k h c s (ds ++ ms) ≡ absorbed f k 44 (advanced (length ds) c) (absorbed f k 40 c s ds) ms
  even zero [] ms c s e = paired_zero c s ms
  even zero (x ∷ ds) ms c s e = absurd (omega arith)
  even (suc h) [] ms c s e = absurd (omega arith)
  even (suc h) (x ∷ []) ms c s e = absurd (omega arith)
  even (suc h) (x ∷ (y ∷ ds)) ms c s e = even h ds ms (stepped (stepped c)) (enciphered f k y 40 c (xors s x)) (omega arith)

  odd : (h : ℕ) (x : List ℕ) (ds ms : List (List ℕ)) (c : ℕ) (s : List ℕ) → length ds ≡ h + h →
      paired f k h c s (x ∷ (ds ++ ms)) ≡ joined f k (advanced (length ds) c) (absorbed f k 40 c s (x ∷ ds)) ms
  odd zero x [] [] c s e = refl
  odd zero x [] (y ∷ ms) c s e = paired_zero (stepped (stepped c)) (enciphered f k y 44 c (xors s x)) ms
  odd zero x (y ∷ ds) ms c s e = absurd (omega arith)
  odd (suc h) x [] ms c s e = absurd (omega arith)
  odd (suc h) x (y ∷ []) ms c s e = absurd (omega arith)
  odd (suc h) x (y ∷ (z ∷ ds)) ms c s e = odd h z ds ms (stepped (stepped c)) (enciphered f k y 40 c (xors s x)) (omega arith)

  data_odd : (h j : ℕ) (ds ms : List (List ℕ)) (c : ℕ) (s : List ℕ) → length ds ≡ j + 1 → j ≡ h + h →
      paired f k h c s (ds ++ ms) ≡ joined f k (advanced j c) (absorbed f k 40 c s ds) ms
  data_odd h j [] ms c s l e = absurd (omega arith)
  data_odd h j (x ∷ ds) ms c s l e =
      let i : length ds ≡ j = omega arith in
      odd h x ds ms c s (omega arith) ∙ ap (λ (z : ℕ). joined f k (advanced z c) (absorbed f k 40 c s (x ∷ ds)) ms) i

  count_of : (xs : List ℕ) → length (map padded (blocks xs)) ≡ (length xs - 1) / 16 + 1
  count_of xs = length-map (blocks xs) padded ∙ (blocks_cut xs).counted

  -- data of evenly many blocks, and of oddly many
  pub gathered_even : (ad m : List ℕ) → block_count (length ad) % 2 ≡ 0 →
      gathered f k ad m ≡ absorbed f k 44 (stepped (counter (block_count (length ad)))) (absorbed f k 40 2 zero_block (map padded (blocks ad))) (map padded (blocks m))
  unfolding gathered
  gathered_even ad m h =
      let n : ℕ = block_count (length ad) in
      let l : length (map padded (blocks ad)) ≡ n = count_of ad in
      even (n / 2) (map padded (blocks ad)) (map padded (blocks m)) 2 zero_block (l ∙ omega arith) ∙ rw (l, stepped_after n)

  pub gathered_odd : (ad m : List ℕ) → block_count (length ad) % 2 ≡ 1 →
      gathered f k ad m ≡ joined f k (counter (block_count (length ad))) (absorbed f k 40 2 zero_block (map padded (blocks ad))) (map padded (blocks m))
  unfolding gathered
  gathered_odd ad m h =
      let j : ℕ = (length ad - 1) / 16 in
      data_odd (block_count (length ad) / 2) j (map padded (blocks ad)) (map padded (blocks m)) 2 zero_block (count_of ad) (omega arith) ∙ rw (add-one j)

  -- the message after a block left over: its first block, and others or none
  pub joined_more : (c : ℕ) (s x y m : List ℕ) → m ≡ x ++ y → length x ≡ 16 → 0 < length y →
      joined f k c s (map padded (blocks m)) ≡ absorbed f k 44 (stepped (stepped c)) (enciphered f k (padded x) 44 c s) (map padded (blocks y))
  joined_more c s x y m e l h =
      let more : 16 < length (x ++ y) = omega (arith, length-append x y) in
      rw (e, blocks_more (x ++ y) more, take_at x y 16 l, drop_at x y 16 l)

  pub joined_last : (c : ℕ) (s x y m : List ℕ) → m ≡ x ++ y → length x ≤ 16 → length y ≡ 0 → joined f k c s (map padded (blocks m)) ≡ enciphered f k (padded x) 44 c s
  joined_last c s x [] m e l h = rw (e, append-nil x, blocks_last x l)
  joined_last c s x (b ∷ y) m e l h = absurd (omega arith)

-- ---- the pass over a text
pub text_calls_some : (l : ℕ) → 0 < l → text_calls l ≡ (l - 1) / 16 + 1
text_calls_some l h = grind (arith, nat_tests)

pub text_calls_none : (l : ℕ) → l ≤ 0 → text_calls l ≡ 0
text_calls_none l h = grind (arith, nat_tests)

-- an empty text stays as it is
pub walked_empty : (f : Answer) (k n : List ℕ) (d : ℕ) (way : Direction) (c : ℕ) (s xs : List ℕ) → length xs ≡ 0 → xs ≡ walked f k n d way c s (blocks xs)
unfolding parts
walked_empty f k n d way c s [] h = refl
walked_empty f k n d way c s (x ∷ xs) h = absurd (omega arith)
