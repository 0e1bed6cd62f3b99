-- The authenticating pass, a pair of blocks at a time.
use Rattle.std.proofs.Common.{◌≡◌, ℕ, suc, ◌+◌, ◌/◌, ◌^◌, ◌<◌, min, List, [], ◌∷◌, ◌++◌, map, length, refl, ap, ◌∙◌, append_assoc, arith}
use Rattle.std.proofs.lemmas.List.{length-append, append-nil, take_at, drop_at}
use Rattle.byte_blocks.specs.Bytes.{xors}
use Rattle.byte_blocks.specs.Counter.{stepped, advanced}
use Rattle.byte_blocks.specs.Block.{padded, blocks, block_count}
use Rattle.byte_blocks.proofs.Pieces.{blocks_more, blocks_last}
use Rattle.cipher.specs.Cipher.{Answer, Called, enciphered}
use Rattle.cipher.proofs.Calls.{called_none, called_then, called_as}
use Rattle.passes.specs.Passes.{absorbed}

-- the blocks that are still to come: of nothing none
pub coming : List ℕ → List (List ℕ)
coming [] = []
coming (x ∷ xs) = blocks (x ∷ xs)

coming_some : (xs : List ℕ) → 0 < length xs → coming xs ≡ blocks xs
unfolding coming
coming_some [] h = absurd (omega arith)
coming_some (x ∷ xs) h = refl

coming_none : (xs : List ℕ) → length xs ≡ 0 → coming xs ≡ []
unfolding coming
coming_none [] e = refl
coming_none (x ∷ xs) e = absurd (omega arith)

-- a block off the front: 16 bytes, or all that is left
coming_block : (x r : List ℕ) → 0 < length x → length x ≡ min 16 (length (x ++ r)) → coming (x ++ r) ≡ x ∷ coming r
unfolding coming
coming_block x [] some l = rw (append-nil x) (coming_some x some ∙ blocks_last x (omega arith))
coming_block x (y ∷ r) some l =
    let n : length (x ++ (y ∷ r)) ≡ length x + length (y ∷ r) = length-append x (y ∷ r) in
    let sixteen : length x ≡ 16 = omega arith in
    coming_some (x ++ (y ∷ r)) (omega arith) ∙ blocks_more (x ++ (y ∷ r)) (omega arith) ∙ rw (take_at x (y ∷ r) 16 sixteen, drop_at x (y ∷ r) 16 sixteen)

-- what the loop keeps: f₀, c₀, s₀, n₀ are the answers, the counter, the block and the count at the start
pub record Absorbing (f₀ : Answer) (k : List ℕ) (d c₀ : ℕ) (s₀ text : List ℕ) (n₀ : ℕ) (f : Answer) (c : ℕ) (s rest : List ℕ) (n : ℕ) : Type 0 where
  pub state : absorbed f₀ k d (stepped c) s (map padded (coming rest)) ≡ absorbed f₀ k d (stepped c₀) s₀ (map padded (blocks text))
  pub last : advanced ((length rest + 15) / 16) c ≡ advanced (block_count (length text)) c₀
  pub done : ℕ
  pub pays : done + (length rest + 15) / 16 / 2 ≡ block_count (length text) / 2
  pub called : Called f₀ n₀ done f n

module _ (f : Answer) (k : List ℕ) (d c : ℕ) (s text : List ℕ) (n : ℕ) (h : n < 2 ^ 64) where
  pub absorbing_some : 0 < length text → Absorbing f k d c s text n f c s text n
  absorbing_some some =
      let e : (length text + 15) / 16 ≡ block_count (length text) = omega arith in
      record {
        state = ap (λ (bs : List (List ℕ)). absorbed f k d (stepped c) s (map padded bs)) (coming_some text some);
        last = ap (λ (j : ℕ). advanced j c) e;
        done = 0;
        pays = omega arith;
        called = called_none f n h;
      }

  -- an empty text is one empty block
  pub absorbing_empty : (c' : ℕ) (s' : List ℕ) → length text ≡ 0 → c' ≡ stepped c → s' ≡ xors s (padded text) → Absorbing f k d c s text n f c' s' text n
  absorbing_empty c' s' e ec es =
      let one : block_count (length text) ≡ 1 = omega arith in
      let none : (length text + 15) / 16 ≡ 0 = omega arith in
      record {
        state = rw (coming_none text e, blocks_last text (omega arith)) es;
        last = rw (one, none) ec;
        done = 0;
        pays = omega arith;
        called = called_none f n h;
      }

module _ {f₀ : Answer} {k : List ℕ} {d c₀ : ℕ} {s₀ text : List ℕ} {n₀ : ℕ} {f : Answer} {c : ℕ} {s rest : List ℕ} {n : ℕ} (inv : Absorbing f₀ k d c₀ s₀ text n₀ f c s rest n)
    (pair x y rest' : List ℕ) (cut : rest ≡ pair ++ rest') (long : length pair ≡ min 32 (length rest)) (halves : pair ≡ x ++ y) (half : length x ≡ min (length pair) 16) where
  pub absorbing_two : (g : Answer) (c' : ℕ) (s' : List ℕ) (n' : ℕ) → 0 < length y →
      c' ≡ stepped (stepped c) → s' ≡ enciphered f k (padded y) d (stepped c) (xors s (padded x)) → Called f n 1 g n' → Absorbing f₀ k d c₀ s₀ text n₀ g c' s' rest' n'
  absorbing_two g c' s' n' some ec es call =
      let whole : rest ≡ x ++ (y ++ rest') = cut ∙ ap (λ (w : List ℕ). w ++ rest') halves ∙ append_assoc x y rest' in
      let lp : length pair ≡ length x + length y = ap length halves ∙ length-append x y in
      let ly : length (y ++ rest') ≡ length y + length rest' = length-append y rest' in
      let lr : length rest ≡ length x + length (y ++ rest') = ap length whole ∙ length-append x (y ++ rest') in
      let lw : length (x ++ (y ++ rest')) ≡ length x + length (y ++ rest') = length-append x (y ++ rest') in
      let two : coming rest ≡ x ∷ (y ∷ coming rest') =
      ap coming whole ∙ coming_block x (y ++ rest') (omega arith) (omega arith) ∙ ap (λ (bs : List (List ℕ)). x ∷ bs) (coming_block y rest' some (omega arith)) in
      let j : (length rest + 15) / 16 ≡ suc (suc ((length rest' + 15) / 16)) = omega arith in
      record {
        state = rw (ec, es, inv.called.same) (rw two at inv.state);
        last = rw ec (rw j at inv.last);
        done = inv.done + 1;
        pays = omega (arith, inv.pays);
        called = called_then inv.called call;
      }

  pub absorbing_one : (c' : ℕ) (s' : List ℕ) → 0 < length rest → length y ≡ 0 → c' ≡ stepped c → s' ≡ xors s (padded x) → Absorbing f₀ k d c₀ s₀ text n₀ f c' s' rest' n
  absorbing_one c' s' more none ec es =
      let lp : length pair ≡ length x + length y = ap length halves ∙ length-append x y in
      let lr : length rest ≡ length pair + length rest' = ap length cut ∙ length-append pair rest' in
      let end : length rest' ≡ 0 = omega arith in
      let whole : rest ≡ x ++ (y ++ rest') = cut ∙ ap (λ (w : List ℕ). w ++ rest') halves ∙ append_assoc x y rest' in
      let ly : length (y ++ rest') ≡ 0 = length-append y rest' ∙ omega arith in
      let lw : length (x ++ (y ++ rest')) ≡ length x = length-append x (y ++ rest') ∙ omega arith in
      let one : coming rest ≡ x ∷ [] =
      ap coming whole ∙ coming_block x (y ++ rest') (omega arith) (omega arith) ∙ ap (λ (bs : List (List ℕ)). x ∷ bs) (coming_none (y ++ rest') ly) in
      let j : (length rest + 15) / 16 ≡ suc ((length rest' + 15) / 16) = omega arith in
      record {
        state = rw (ec, es, coming_none rest' end) (rw one at inv.state);
        last = rw ec (rw j at inv.last);
        done = inv.done;
        pays = omega (arith, inv.pays);
        called = inv.called;
      }

-- the loop's end: nothing is left
pub absorbing_end : {f₀ : Answer} {k : List ℕ} {d c₀ : ℕ} {s₀ text : List ℕ} {n₀ : ℕ} {f : Answer} {c : ℕ} {s rest : List ℕ} {n : ℕ} →
    Absorbing f₀ k d c₀ s₀ text n₀ f c s rest n → length rest ≡ 0 →
    (s ≡ absorbed f₀ k d (stepped c₀) s₀ (map padded (blocks text))) × (c ≡ advanced (block_count (length text)) c₀) × Called f₀ n₀ (block_count (length text) / 2) f n
absorbing_end {c = c} {rest = rest} inv e =
    let none : (length rest + 15) / 16 ≡ 0 = omega arith in (
      rw (coming_none rest e) at inv.state,
      rw none at inv.last,
      called_as _ (omega (arith, inv.pays)) inv.called,
    )
