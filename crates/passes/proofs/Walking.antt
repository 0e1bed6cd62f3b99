-- The enciphering pass, a part at a time.
use Rattle.std.proofs.Common.{◌≡◌, ℕ, zero, suc, ◌+◌, ◌-◌, ◌*◌, ◌/◌, ◌%◌, ◌^◌, ◌<◌, ◌≤◌, List, ◌∷◌, ◌++◌, length, take, drop, sym, refl, ap, ◌∙◌, arith}
use Rattle.std.proofs.lemmas.List.{length-drop, drop-drop, length-take-le, append_assoc, append-nil, drop_all}
use Rattle.std.proofs.lemmas.Slice.{take-put_mid, drop-put_mid}
use borrow.Rule.Slice.PartMut.{put_mid}
use Rattle.byte_blocks.specs.Bytes.{xors, g_of}
use Rattle.byte_blocks.specs.Counter.{stepped, advanced, counter}
use Rattle.byte_blocks.specs.Block.{parts, blocks, cut, block_count}
use Rattle.byte_blocks.proofs.Leaves.{length-xors}
use Rattle.byte_blocks.proofs.Pieces.{blocks_more, blocks_last}
use Rattle.cipher.specs.Cipher.{Answer, Called, enciphered}
use Rattle.cipher.proofs.Calls.{called_none, called_then, called_as}
use Rattle.passes.specs.declared.Direction.{Direction}
use Rattle.passes.specs.Passes.{mixed, walked, left}

module _ (f : Answer) (k n : List ℕ) (d : ℕ) (way : Direction) (c : ℕ) (s : List ℕ) where
  left_cut : (x : List ℕ) (j : ℕ) (xs : List ℕ) → left f k n d way c s (x ∷ cut 16 j xs) ≡ left f k n d way (stepped c) (enciphered f k n d c (mixed way s x)) (cut 16 j xs)
  left_cut x zero xs = refl
  left_cut x (suc j) xs = refl

  walked_cut : (x : List ℕ) (j : ℕ) (xs : List ℕ) → walked f k n d way c s (x ∷ cut 16 j xs) ≡ xors x (g_of s) ++ walked f k n d way (stepped c) (enciphered f k n d c (mixed way s x)) (cut 16 j xs)
  walked_cut x zero xs = refl
  walked_cut x (suc j) xs = refl

  pub left_more : (xs : List ℕ) → 16 < length xs → left f k n d way c s (blocks xs) ≡ left f k n d way (stepped c) (enciphered f k n d c (mixed way s (take 16 xs))) (blocks (drop 16 xs))
  unfolding parts
  left_more xs h = rw (blocks_more xs h) (left_cut (take 16 xs) ((length (drop 16 xs) - 1) / 16) (drop 16 xs))

  pub walked_more : (xs : List ℕ) → 16 < length xs → walked f k n d way c s (blocks xs) ≡ xors (take 16 xs) (g_of s) ++ walked f k n d way (stepped c) (enciphered f k n d c (mixed way s (take 16 xs))) (blocks (drop 16 xs))
  unfolding parts
  walked_more xs h = rw (blocks_more xs h) (walked_cut (take 16 xs) ((length (drop 16 xs) - 1) / 16) (drop 16 xs))

  pub left_last : (xs : List ℕ) → length xs ≤ 16 → left f k n d way c s (blocks xs) ≡ mixed way s xs
  left_last xs h = rw (blocks_last xs h)

  pub walked_last : (xs : List ℕ) → length xs ≤ 16 → walked f k n d way c s (blocks xs) ≡ xors xs (g_of s)
  walked_last xs h = rw (blocks_last xs h)

-- what the loop keeps: of the text m, i bytes are done; o is the place as it stands
pub record Walking (f₀ : Answer) (k nonce : List ℕ) (d : ℕ) (way : Direction) (s₀ m : List ℕ) (n₀ : ℕ) (f : Answer) (c : ℕ) (s o : List ℕ) (i n : ℕ) : Type 0 where
  pub within : i ≤ (length m - 1) / 16 * 16
  pub whole : i % 16 ≡ 0
  pub state : left f₀ k nonce d way (stepped c) s (blocks (drop i o)) ≡ left f₀ k nonce d way (counter 1) s₀ (blocks m)
  pub text : take i o ++ walked f₀ k nonce d way (stepped c) s (blocks (drop i o)) ≡ walked f₀ k nonce d way (counter 1) s₀ (blocks m)
  pub last : advanced (block_count (length m - i)) c ≡ counter (block_count (length m))
  pub called : Called f₀ n₀ (i / 16) f n

pub walking_none : (f : Answer) (k nonce : List ℕ) (d : ℕ) (way : Direction) (s m : List ℕ) (n : ℕ) → n < 2 ^ 64 → Walking f k nonce d way s m n f 1 s m 0 n
walking_none f k nonce d way s m n h =
    let e : block_count (length m - 0) ≡ block_count (length m) = omega arith in
    record { within = omega arith; whole = refl; state = refl; text = refl; last = ap counter e; called = called_none f n h }

module _ {f₀ : Answer} {k nonce : List ℕ} {d : ℕ} {way : Direction} {s₀ m : List ℕ} {n₀ : ℕ} {f : Answer} {c : ℕ} {s o : List ℕ} {i n : ℕ} (inv : Walking f₀ k nonce d way s₀ m n₀ f c s o i n) (lo : length o ≡ length m) where
  pub walking_more : (g : Answer) (c' : ℕ) (s' p x : List ℕ) (n' : ℕ) → i < (length m - 1) / 16 * 16 →
      c' ≡ stepped c → p ≡ take (i + 16 - i) (drop i o) → x ≡ xors p (g_of s) → s' ≡ enciphered f k nonce d (stepped c) (mixed way s p) →
      Called f n 1 g n' → Walking f₀ k nonce d way s₀ m n₀ g c' s' (put_mid i (i + 16 - i) o x) (i + 16) n'
  walking_more g c' s' p x n' h ec ew ex es call =
      let w : ℕ = i + 16 - i in
      let sixteen : w ≡ 16 = omega arith in
      let ep : p ≡ take 16 (drop i o) = ew ∙ ap (λ (j : ℕ). take j (drop i o)) sixteen in
      let ld : length (drop i o) ≡ length o - i = length-drop i o in
      let big : 16 < length (drop i o) = omega (arith, inv.whole) in
      let lx : length x ≡ 16 = ap length ex ∙ length-xors p (g_of s) ∙ ap length ep ∙ length-take-le 16 (drop i o) (omega arith) in
      let j : block_count (length m - i) ≡ suc (block_count (length m - (i + 16))) = omega arith in
      let tk : take (i + 16) (put_mid i w o x) ≡ take i o ++ x = take-put_mid i w o x (i + 16) (omega arith) (omega arith) in
      let dr : drop (i + 16) (put_mid i w o x) ≡ drop 16 (drop i o) = drop-put_mid i w o x (i + 16) (omega arith) (omega arith) (omega arith) ∙ sym (drop-drop 16 i o) in
      record {
        within = omega (arith, inv.whole);
        whole = omega (arith, inv.whole);
        state = rw (dr, ec, es, ep, inv.called.same) (sym (left_more f₀ k nonce d way (stepped c) s (drop i o) big) ∙ inv.state);
        text = rw (tk, dr, ec, es, ex, ep, inv.called.same)
            (append_assoc (take i o) _ _ ∙ ap (λ (z : List ℕ). take i o ++ z) (sym (walked_more f₀ k nonce d way (stepped c) s (drop i o) big)) ∙ inv.text);
        last = rw ec (ap (λ (z : ℕ). advanced z c) (sym j) ∙ inv.last);
        called = called_as _ (omega (arith, inv.whole)) (called_then inv.called call);
      }

  pub walking_last : (c' : ℕ) (s' p x : List ℕ) (l : ℕ) → l ≡ (length m - 1) / 16 * 16 → l ≤ i → c' ≡ stepped c → p ≡ drop l o → x ≡ xors p (g_of s) → s' ≡ mixed way s p →
      (s' ≡ left f₀ k nonce d way (counter 1) s₀ (blocks m))
      × (put_mid l (length o - l) o x ≡ walked f₀ k nonce d way (counter 1) s₀ (blocks m))
      × (c' ≡ counter (block_count (length m)))
      × Called f₀ n₀ ((length m - 1) / 16) f n
  walking_last c' s' p x l el at ec ep ex es =
      let e : l ≡ i = omega (arith, inv.within) in
      let ld : length (drop i o) ≡ length o - i = length-drop i o in
      let short : length (drop i o) ≤ 16 = omega arith in
      let j : block_count (length m - i) ≡ 1 = omega arith in
      let le : length (drop i o) ≤ length o - i = omega arith in (
        rw (es, ep, e) (sym (left_last f₀ k nonce d way (stepped c) s (drop i o) short) ∙ inv.state),
        rw (e, drop_all (length o - i) (drop i o) le, append-nil x, ex, ep, e) (ap (λ (z : List ℕ). take i o ++ z) (sym (walked_last f₀ k nonce d way (stepped c) s (drop i o) short)) ∙ inv.text),
        ec ∙ (rw j at inv.last),
        called_as _ (omega arith) inv.called,
      )
