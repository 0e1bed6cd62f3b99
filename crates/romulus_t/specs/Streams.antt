-- A text under the key stream, a block at a time.
use Rattle.std.specs.Prelude.{◌≡◌, ℕ, suc, ◌+◌, ◌-◌, ◌*◌, ◌/◌, ◌%◌, ◌^◌, ◌<◌, ◌≤◌, List, [], ◌∷◌, ◌++◌, length, take, drop, bit_xor, refl}
use Rattle.std.proofs.Common.{sym, ap, ◌∙◌, append_assoc, arith}
use Rattle.std.proofs.lemmas.List.{length-append, length-drop, drop-drop, length-take-le, append-nil, drop_all, take-append-drop}
use Rattle.std.proofs.lemmas.Slice.{take-put_mid, drop-put_mid}
use borrow.Rule.Slice.PartMut.{put_mid}
use Rattle.byte_blocks.specs.Bytes.{xors}
use Rattle.byte_blocks.specs.Counter.{stepped, counter}
use Rattle.byte_blocks.specs.Block.{zero_block}
use Rattle.byte_blocks.proofs.Leaves.{length-xors, xors_twice}
use Rattle.cipher.specs.Cipher.{Answer, Sixteen, Called, enciphered}
use Rattle.cipher.proofs.Calls.{called_none, called_then, called_as}
use Rattle.romulus_t.specs.ModeT.{message_blocks, stream, ciphertext_of}

-- ---- a mask in parts
-- a text in two parts, the first as long as its part of the mask
xors_parts : (x y e z : List ℕ) → length x ≡ length e → xors (x ++ y) (e ++ z) ≡ xors x e ++ xors y z
xors_parts [] y [] z l = refl
xors_parts [] y (b ∷ e) z l = absurd (omega arith)
xors_parts (a ∷ x) y [] z l = absurd (omega arith)
xors_parts (a ∷ x) y (b ∷ e) z l = ap (λ (w : List ℕ). bit_xor a b ∷ w) (xors_parts x y e z (omega arith))

-- no more of a mask is used than the text is long
xors_front : (x e z : List ℕ) → length x ≤ length e → xors x (e ++ z) ≡ xors x e
xors_front [] e z l = refl
xors_front (a ∷ x) [] z l = absurd (omega arith)
xors_front (a ∷ x) (b ∷ e) z l = ap (λ (w : List ℕ). bit_xor a b ∷ w) (xors_front x e z (omega arith))

length-enciphered : (f : Answer) → Sixteen f → (k t : List ℕ) (d c : ℕ) (s : List ℕ) → length (enciphered f k t d c s) ≡ 16
unfolding enciphered
length-enciphered f h k t d c s = h _ s

-- ---- the key stream, a block at a time
module _ (f : Answer) (h : Sixteen f) (n : List ℕ) (c : ℕ) (s xs : List ℕ) where
  covered_more : 16 < length xs →
      xors xs (stream f n (message_blocks (length xs)) c s)
      ≡ xors (take 16 xs) (enciphered f s zero_block 64 c n) ++ xors (drop 16 xs) (stream f n (message_blocks (length (drop 16 xs))) (stepped c) (enciphered f s zero_block 65 c n))
  covered_more big =
      let j : ℕ = message_blocks (length (drop 16 xs)) in
      let e : message_blocks (length xs) ≡ suc j = omega (arith, length-drop 16 xs) in
      let l : length (take 16 xs) ≡ length (enciphered f s zero_block 64 c n) = length-take-le 16 xs (omega arith) ∙ sym (length-enciphered f h s zero_block 64 c n) in
      ap (λ (i : ℕ). xors xs (stream f n i c s)) e
      ∙ ap (λ (y : List ℕ). xors y (stream f n (suc j) c s)) (sym (take-append-drop 16 xs))
      ∙ xors_parts (take 16 xs) (drop 16 xs) (enciphered f s zero_block 64 c n) _ l

  covered_last : 0 < length xs → length xs ≤ 16 → xors xs (stream f n (message_blocks (length xs)) c s) ≡ xors xs (enciphered f s zero_block 64 c n)
  covered_last some short =
      let e : message_blocks (length xs) ≡ 1 = omega arith in
      ap (λ (i : ℕ). xors xs (stream f n i c s)) e ∙ xors_front xs (enciphered f s zero_block 64 c n) [] (omega (arith, length-enciphered f h s zero_block 64 c n))

-- ---- the loop over a text in its own place
-- what it keeps: the first i bytes of xs are done, and the rest of xs is as it was; f₀, n₀, s₀ and xs₀ stood at the start
pub record Covering (f₀ : Answer) (n₀ : ℕ) (nonce s₀ xs₀ : List ℕ) (f : Answer) (n c : ℕ) (s xs : List ℕ) (i : ℕ) : Type 0 where
  pub within : i < length xs
  pub whole : i % 16 ≡ 0
  pub long : length xs ≡ length xs₀
  pub text : take i xs ++ xors (drop i xs) (stream f₀ nonce (message_blocks (length (drop i xs))) c s) ≡ xors xs₀ (stream f₀ nonce (message_blocks (length xs₀)) (counter 0) s₀)
  pub called : Called f₀ n₀ (2 * (i / 16)) f n

pub covering_none : (f : Answer) (n c : ℕ) (nonce s xs : List ℕ) → n < 2 ^ 64 → 0 < length xs → c ≡ counter 0 → Covering f n nonce s xs f n c s xs 0
covering_none f n c nonce s xs h some e = record { within = some; whole = refl; long = refl; text = rw e; called = called_none f n h }

module _ {f₀ : Answer} {n₀ : ℕ} {nonce s₀ xs₀ : List ℕ} {f : Answer} {n c : ℕ} {s xs : List ℕ} {i : ℕ} (h : Sixteen f₀) (inv : Covering f₀ n₀ nonce s₀ xs₀ f n c s xs i) where
  pub covering_more : {f₁ f₂ : Answer} {n₁ n₂ : ℕ} (c' : ℕ) (s' p x : List ℕ) → i < (length xs - 1) / 16 * 16 → c' ≡ stepped c →
      p ≡ take (i + 16 - i) (drop i xs) → x ≡ xors p (enciphered f s zero_block 64 c nonce) → Called f n 1 f₁ n₁ →
      s' ≡ enciphered f₁ s zero_block 65 c nonce → Called f₁ n₁ 1 f₂ n₂ → Covering f₀ n₀ nonce s₀ xs₀ f₂ n₂ c' s' (put_mid i (i + 16 - i) xs x) (i + 16)
  covering_more c' s' p x more ec ew ex one es two =
      let d : ℕ = i + 16 - i in
      let sixteen : d ≡ 16 = omega arith in
      let ep : p ≡ take 16 (drop i xs) = ew ∙ ap (λ (j : ℕ). take j (drop i xs)) sixteen in
      let ld : length (drop i xs) ≡ length xs - i = length-drop i xs in
      let big : 16 < length xs - i = omega (arith, inv.whole) in
      let bigger : 16 < length (drop i xs) = omega arith in
      let lx : length x ≡ 16 = ap length ex ∙ length-xors p _ ∙ ap length ep ∙ length-take-le 16 (drop i xs) (omega arith) in
      let front : take (i + 16) (put_mid i d xs x) ≡ take i xs ++ x = take-put_mid i d xs x (i + 16) (omega arith) (omega (arith, inv.within)) in
      let rest : drop (i + 16) (put_mid i d xs x) ≡ drop 16 (drop i xs) = drop-put_mid i d xs x (i + 16) (omega arith) (omega (arith, inv.within)) (omega arith) ∙ sym (drop-drop 16 i xs) in
      let lr : length (put_mid i d xs x) ≡ length xs =
      ap length (sym (take-append-drop (i + 16) (put_mid i d xs x)))
      ∙ rw (front, rest) (length-append (take i xs ++ x) (drop 16 (drop i xs)) ∙ omega (arith, inv.within, length-append (take i xs) x, length-take-le i xs (omega (arith, inv.within)), length-drop 16 (drop i xs))) in
      record {
        within = omega (arith, lr);
        whole = omega (arith, inv.whole);
        long = lr ∙ inv.long;
        text = rw (front, rest, ec, es, ex, ep, one.same, inv.called.same)
            (append_assoc (take i xs) _ _ ∙ ap (λ (y : List ℕ). take i xs ++ y) (sym (covered_more f₀ h nonce c s (drop i xs) bigger)) ∙ inv.text);
        called = called_as _ (omega (arith, inv.whole)) (called_then inv.called (called_then one two));
      }

  pub covering_last : {f' : Answer} {n' : ℕ} (p x : List ℕ) (l : ℕ) → l ≡ (length xs - 1) / 16 * 16 → l ≤ i → p ≡ drop l xs → x ≡ xors p (enciphered f s zero_block 64 c nonce) → Called f n 1 f' n' →
      (put_mid l (length xs - l) xs x ≡ xors xs₀ (stream f₀ nonce (message_blocks (length xs₀)) (counter 0) s₀))
      × Called f₀ n₀ (2 * message_blocks (length xs₀) - 1) f' n'
  covering_last p x l el at ep ex one =
      let e : l ≡ i = omega (arith, inv.within, inv.whole) in
      let ld : length (drop i xs) ≡ length xs - i = length-drop i xs in
      let some : 0 < length (drop i xs) = omega (arith, inv.within) in
      let short : length (drop i xs) ≤ 16 = omega arith in
      let le : length (drop i xs) ≤ length xs - i = omega arith in (
        rw (e, drop_all (length xs - i) (drop i xs) le, append-nil x, ex, ep, e, inv.called.same)
            (ap (λ (y : List ℕ). take i xs ++ y) (sym (covered_last f₀ h nonce c s (drop i xs) some short)) ∙ inv.text),
        called_as _ (omega (arith, inv.whole, inv.within, inv.long)) (called_then inv.called one),
      )

-- ---- an empty text
pub covered_none : (f : Answer) (k n xs : List ℕ) → length xs ≡ 0 → xs ≡ ciphertext_of f k n xs
unfolding ciphertext_of
covered_none f k n [] e = refl
covered_none f k n (x ∷ xs) e = absurd (omega arith)

-- ---- covering twice gives a text back
pub covered_twice : (f : Answer) (k n xs : List ℕ) → ciphertext_of f k n (ciphertext_of f k n xs) ≡ xs
unfolding ciphertext_of
covered_twice f k n xs =
    let mask : ℕ → List ℕ = λ l. stream f n (message_blocks l) (counter 0) (enciphered f k zero_block 66 0 n) in
    ap (λ (l : ℕ). xors (xors xs (mask (length xs))) (mask l)) (length-xors xs (mask (length xs))) ∙ xors_twice xs (mask (length xs))

pub covered_back : (f : Answer) (k n xs ys : List ℕ) → ys ≡ ciphertext_of f k n xs → ciphertext_of f k n ys ≡ xs
covered_back f k n xs ys e = ap (ciphertext_of f k n) e ∙ covered_twice f k n xs

pub length_covered : (f : Answer) (k n xs : List ℕ) → length (ciphertext_of f k n xs) ≡ length xs
unfolding ciphertext_of
length_covered f k n xs = length-xors xs _
