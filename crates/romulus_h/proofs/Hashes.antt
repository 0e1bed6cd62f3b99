-- The hash, a block at a time.
use Rattle.std.proofs.Common.{◌≡◌, ℕ, zero, suc, ◌+◌, ◌-◌, ◌*◌, ◌/◌, ◌%◌, ◌^◌, ◌<◌, List, [], ◌∷◌, ◌++◌, length, get_or, take, drop, replicate, Some, None, sym, refl, ap, ◌∙◌, subst, append_assoc, zero-add, arith}
use Rattle.std.proofs.lemmas.List.{take_all, length-append, length-replicate, take_at, drop_at, take-append-drop, length-drop, drop-drop, replicate-append-replicate}
use Rattle.std.specs.Simd.{first_chunks}
use Rattle.std.proofs.lemmas.Bool.{lt-ltb}
use Rattle.byte_blocks.specs.Block.{parts, cut, ipad, ipad_star, padded, ended}
use Rattle.cipher.specs.Cipher.{Answer, Called}
use Rattle.cipher.proofs.Calls.{called_none, called_then, called_as}
use Rattle.romulus_h.specs.Hash.{marked, left_of, right_of, chained, digest_from, digest_of, hash_calls}
use Rattle.romulus_h.specs.Hashing.{fresh, digest_after, calls_after, Absorbs}
use Rattle.romulus_h.specs.declared.Hasher.{Hasher}

-- ---- padding to blocks of 32 bytes
length-ipad : (xs : List ℕ) → length (ipad 32 xs) ≡ (length xs / 32 + 1) * 32
unfolding ipad
length-ipad xs = simp (length-append, length-replicate) (omega arith)

ipad_more : (q ys : List ℕ) → length q ≡ 32 → ipad 32 (q ++ ys) ≡ q ++ ipad 32 ys
unfolding ipad
ipad_more q ys l =
    let e : length (q ++ ys) % 32 ≡ length ys % 32 = omega (arith, length-append q ys) in
    rw e (append_assoc q ys _)

-- ---- the digest, one block at a time
module _ (f : Answer) (l r : List ℕ) where
  chained_cut : (q : List ℕ) (j : ℕ) (xs : List ℕ) → chained f l r (q ∷ cut 32 j xs) ≡ chained f (left_of f l r q) (right_of f l r q) (cut 32 j xs)
  chained_cut q zero xs = refl
  chained_cut q (suc j) xs = refl

  -- a whole block, and more to come
  pub digest_more : (q ys : List ℕ) → length q ≡ 32 → digest_from f l r (q ++ ys) ≡ digest_from f (left_of f l r q) (right_of f l r q) ys
  unfolding digest_from parts
  digest_more q ys h =
      let zs : List ℕ = ipad 32 ys in
      let len : length zs ≡ (length ys / 32 + 1) * 32 = length-ipad ys in
      let e : (length (q ++ zs) - 1) / 32 ≡ suc ((length zs - 1) / 32) = omega (arith, length-append q zs) in
      ap (λ (w : List ℕ). chained f l r (cut 32 ((length w - 1) / 32) w)) (ipad_more q ys h)
      ∙ ap (λ (j : ℕ). chained f l r (cut 32 j (q ++ zs))) e
      ∙ rw (take_at q zs 32 h, drop_at q zs 32 h) (chained_cut q ((length zs - 1) / 32) zs)

  -- the last block
  pub digest_last : (t : List ℕ) → length t < 32 → digest_from f l r t ≡ left_of f (marked 2 l) r (ipad 32 t) ++ right_of f (marked 2 l) r (ipad 32 t)
  unfolding digest_from parts
  digest_last t h =
      let e : (length (ipad 32 t) - 1) / 32 ≡ 0 = omega (arith, length-ipad t) in
      ap (λ (j : ℕ). chained f l r (cut 32 j (ipad 32 t))) e

-- ---- texts taken in one after the other
pub absorbs_none : (f : Answer) (n : ℕ) (s : Hasher) → n < 2 ^ 64 → Absorbs f n s [] f n s
absorbs_none f n s h = record {
  digest = λ ys. refl;
  made = 0;
  called = called_none f n h;
  all = λ j. omega arith;
}

pub absorbs_both : {f₀ f₁ f₂ : Answer} {n₀ n₁ n₂ : ℕ} {s₀ s₁ s₂ : Hasher} {xs ys : List ℕ} →
    Absorbs f₀ n₀ s₀ xs f₁ n₁ s₁ → Absorbs f₁ n₁ s₁ ys f₂ n₂ s₂ → Absorbs f₀ n₀ s₀ (xs ++ ys) f₂ n₂ s₂
absorbs_both {s₀ = s₀} {xs = xs} {ys = ys} a b = record {
  digest = λ zs. rw (append_assoc xs ys zs) ((rw a.called.same at (b.digest zs)) ∙ a.digest (ys ++ zs));
  made = a.made + b.made;
  called = called_then a.called b.called;
  all = λ j. omega (arith, b.all j, a.all (length ys + j), length-append xs ys);
}

pub absorbs_as : {f₀ f : Answer} {n₀ n : ℕ} {s₀ s : Hasher} {xs ys : List ℕ} → xs ≡ ys → Absorbs f₀ n₀ s₀ xs f n s → Absorbs f₀ n₀ s₀ ys f n s
absorbs_as {f₀} {f} {n₀} {n} {s₀} {s} e a = subst (λ (w : List ℕ). Absorbs f₀ n₀ s₀ w f n s) e a

-- the first half of a block waits
pub absorbs_half : (f : Answer) (n : ℕ) (s s' : Hasher) (x : List ℕ) → n < 2 ^ 64 → s.half ≡ None → s'.half ≡ Some x → s'.chain.left ≡ s.chain.left → s'.chain.right ≡ s.chain.right → Absorbs f n s x f n s'
absorbs_half f n s s' x h e e' el er = record {
  digest = λ ys. rw (e, e', el, er);
  made = 0;
  called = called_none f n h;
  all = λ j. rw (e, e') (omega arith);
}

-- the second half makes a block whole
pub absorbs_whole : {f f' : Answer} {n n' : ℕ} (s s' : Hasher) (h x : List ℕ) → s.half ≡ Some h → s'.half ≡ None →
    s'.chain.left ≡ left_of f s.chain.left s.chain.right (h ++ x) → s'.chain.right ≡ right_of f s.chain.left s.chain.right (h ++ x) →
    length (h ++ x) ≡ 32 → Called f n 2 f' n' → Absorbs f n s x f' n' s'
absorbs_whole {f = f} s s' h x e e' el er l called = record {
  digest = λ ys. rw (e, e', el, er) (sym (digest_more f s.chain.left s.chain.right (h ++ x) ys l) ∙ ap (digest_from f s.chain.left s.chain.right) (append_assoc h x ys));
  made = 2;
  called = called;
  all = λ j. rw (e, e') (omega (arith, length-append h x));
}

-- ---- a text in chunks
pub chunk_at : (n k i : ℕ) (xs d : List ℕ) → i < k → get_or (first_chunks n k xs) i d ≡ take n (drop (i * n) xs)
chunk_at n zero i xs d h = absurd (omega arith)
chunk_at n (suc k) zero xs d h = let e : 0 ≡ zero * n = omega arith in ap (λ (j : ℕ). take n (drop j xs)) e
chunk_at n (suc k) (suc i) xs d h =
    let e : n + i * n ≡ suc i * n = omega arith in
    chunk_at n k i (drop n xs) d (omega arith) ∙ ap (take n) (drop-drop (i * n) n xs ∙ ap (λ (j : ℕ). drop j xs) e)

-- ---- a text padded to whole blocks of 16 bytes
-- the whole blocks, then the rest as a block
pub star_parts : (xs : List ℕ) → 0 < length xs → take (length xs / 16 * 16) xs ++ padded (drop (length xs / 16 * 16) xs) ≡ ipad_star xs
unfolding ipad_star ipad padded
star_parts [] h = absurd (omega arith)
star_parts (x ∷ xs) h =
    let n : ℕ = length (x ∷ xs) / 16 * 16 in
    let l : length (drop n (x ∷ xs)) ≡ length (x ∷ xs) % 16 = length-drop n (x ∷ xs) ∙ omega arith in
    let b : length (x ∷ xs) % 16 < 16 = omega arith in
    rw (l, lt-ltb (length (x ∷ xs) % 16) 16 b)
    (sym (append_assoc (take n (x ∷ xs)) (drop n (x ∷ xs)) _) ∙ rw (take-append-drop n (x ∷ xs)))

pub star_none : (xs : List ℕ) → length xs ≡ 0 → [] ≡ ipad_star xs
unfolding ipad_star
star_none [] e = refl
star_none (x ∷ xs) e = absurd (omega arith)

-- ---- the last block
ended_short : (t : List ℕ) (last : ℕ) → length t < 16 → ended t last ≡ t ++ (replicate (15 - length t) 0 ++ (last ∷ []))
unfolding ended
ended_short t last h = rw (take_all 15 t (omega arith))

-- less than half a block after a half that waits
last_full : (h t : List ℕ) → length (h ++ ended t (16 + length t)) ≡ 32 → length t < 16 → h ++ ended t (16 + length t) ≡ ipad 32 (h ++ t)
unfolding ipad
last_full h t l m =
    let e : ended t (16 + length t) ≡ t ++ (replicate (15 - length t) 0 ++ ((16 + length t) ∷ [])) = ended_short t (16 + length t) m in
    let le : length (ended t (16 + length t)) ≡ 16 = ap length e ∙ simp (length-append, length-replicate) (omega arith) in
    let a : length (h ++ t) % 32 ≡ 16 + length t = omega (arith, length-append h t, length-append h (ended t (16 + length t))) in
    let b : 31 - (16 + length t) ≡ 15 - length t = omega arith in
    rw (a, b, e) (sym (append_assoc h t _))

-- less than half a block alone
last_half : (t : List ℕ) → length t < 16 → ended t 0 ++ ended [] (length t) ≡ ipad 32 t
unfolding ipad
last_half t m =
    let z : ℕ = 0 in
    let n : ℕ = length t in
    let a : n % 32 ≡ n = omega arith in
    let e : 15 - n + 16 ≡ 31 - n = omega arith in
    rw (ended_short t 0 m, ended_short [] n (omega arith), a, ← e, ← replicate-append-replicate (15 - n) 16 z)
    (append_assoc t _ _ ∙ ap (λ (w : List ℕ). t ++ w) (append_assoc (replicate (15 - n) z) (0 ∷ []) _ ∙ sym (append_assoc (replicate (15 - n) z) (replicate 16 z) (n ∷ []))))

-- the digest from the last block
digest_end : (f : Answer) (l l₀ l' r r' q t : List ℕ) → length t < 32 → l₀ ≡ marked 2 l → q ≡ ipad 32 t → l' ≡ left_of f l₀ r q → r' ≡ right_of f l₀ r q →
    l' ++ r' ≡ digest_from f l r t
digest_end f l l₀ l' r r' q t h e₀ eq el er = rw (el, er, eq, e₀) (sym (digest_last f l r t h))

-- the end of a text, after a half that waits
module _ (f : Answer) (s : Hasher) (l₀ l' r' t x : List ℕ) (e₀ : l₀ ≡ marked 2 s.chain.left) (m : length t < 16) where
  pub ends_full : {f' : Answer} {n n' : ℕ} (h : List ℕ) → s.half ≡ Some h → x ≡ ended t (16 + length t) → length (h ++ x) ≡ 32 →
      l' ≡ left_of f l₀ s.chain.right (h ++ x) → r' ≡ right_of f l₀ s.chain.right (h ++ x) → Called f n 2 f' n' →
      (l' ++ r' ≡ digest_after f s t) × Called f n (calls_after s (length t)) f' n'
  ends_full h e ex w el er called =
      let q = last_full h t (rw ex at w) m in
      let l : length (h ++ t) < 32 = omega (arith, ap length q, rw ex at w, length-append h (ended t (16 + length t)), length-append h t, length-ipad (h ++ t)) in (
        rw e (digest_end f s.chain.left l₀ l' s.chain.right r' (h ++ x) (h ++ t) l e₀ (rw ex q) el er),
        rw e (called_as _ (omega (arith, length-append h t)) called),
      )

  pub ends_half : {f' : Answer} {n n' : ℕ} (y : List ℕ) → s.half ≡ None → x ≡ ended t 0 → y ≡ ended [] (length t) →
      l' ≡ left_of f l₀ s.chain.right (x ++ y) → r' ≡ right_of f l₀ s.chain.right (x ++ y) → Called f n 2 f' n' →
      (l' ++ r' ≡ digest_after f s t) × Called f n (calls_after s (length t)) f' n'
  ends_half y e ex ey el er called = (
    rw e (digest_end f s.chain.left l₀ l' s.chain.right r' (x ++ y) t (omega arith) e₀ (rw (ex, ey) (last_half t m)) el er),
    rw e (called_as _ (omega arith) called),
  )

-- ---- a text taken in, then its end
pub absorbs_end : {f₀ f f' : Answer} {n₀ n n' : ℕ} {s₀ s : Hasher} {xs : List ℕ} (text t d : List ℕ) → Absorbs f₀ n₀ s₀ xs f n s → xs ++ t ≡ text →
    d ≡ digest_after f s t → Called f n (calls_after s (length t)) f' n' →
    (d ≡ digest_after f₀ s₀ text) × Called f₀ n₀ (calls_after s₀ (length text)) f' n'
absorbs_end {f₀} {s₀ = s₀} {xs = xs} text t d a e ed called = (
  (rw a.called.same at ed) ∙ a.digest t ∙ ap (digest_after f₀ s₀) e,
  called_as _ (a.all (length t) ∙ ap (calls_after s₀) (sym (length-append xs t) ∙ ap length e)) (called_then a.called called),
)

-- the same from the start of a text
pub absorbs_all : {f₀ f f' : Answer} {n₀ n n' : ℕ} {s₀ s : Hasher} {xs : List ℕ} (text t d : List ℕ) → s₀ ≡ fresh → Absorbs f₀ n₀ s₀ xs f n s → xs ++ t ≡ text →
    d ≡ digest_after f s t → Called f n (calls_after s (length t)) f' n' →
    (d ≡ digest_of f₀ text) × Called f₀ n₀ (hash_calls (length text)) f' n'
absorbs_all text t d start a e ed called =
    let p = absorbs_end text t d a e ed called in
    (rw start at p.0, called_as _ (ap hash_calls (zero-add (length text))) (rw start at p.1))
