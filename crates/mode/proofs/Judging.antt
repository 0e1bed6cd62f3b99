-- An opening that finds a message, makes its tag and compares it with the frame's opens exactly the right frames.
use Rattle.std.proofs.Common.{◌≡◌, ℕ, Bool, true, false, cond, List, length, Decides, sym, refl, ap, ◌∙◌, arith}
use Rattle.cipher.specs.Cipher.{Answer}
use Rattle.mode.specs.Mode.{Scheme, Right, Opened, zeros}

pub pairs : {p : List ℕ × List ℕ} {x y : List ℕ} → p.0 ≡ x → p.1 ≡ y → ◌≡◌ {A = List ℕ × List ℕ} p (x, y)
pairs {p = p} {x = x} {y = y} e h = let q : ◌≡◌ {A = List ℕ × List ℕ} (p.0, p.1) (x, y) = cc in q

never : false ≡ true → ⊥
never e = let z : ◌≡◌ {A = ℕ} 0 1 = cc in omega arith

-- ciphertext, tag, and the message found for a ciphertext and a tag: what is found seals to the ciphertext where its tag is right,
-- and a sealed message is found again
module _ (m : Scheme) (f : Answer) (key nonce ad : List ℕ) (found : (text tag : List ℕ) → List ℕ)
    (right : (text tag : List ℕ) → (m.frame f key nonce ad (found text tag)).1 ≡ tag → (m.frame f key nonce ad (found text tag)).0 ≡ text)
    (again : (x : List ℕ) → found (m.frame f key nonce ad x).0 (m.frame f key nonce ad x).1 ≡ x) where
  pub found_one : (x y : List ℕ) → m.frame f key nonce ad x ≡ m.frame f key nonce ad y → x ≡ y
  found_one x y e = sym (again x) ∙ ap (λ (p : List ℕ × List ℕ). found p.0 p.1) e ∙ again y

  wrong : (text tag : List ℕ) → ((m.frame f key nonce ad (found text tag)).1 ≡ tag → ⊥) → Right m f key nonce ad text tag → ⊥
  wrong text tag no-tag p =
      let e : ◌≡◌ {A = List ℕ × List ℕ} (m.frame f key nonce ad p.0) (text, tag) = p.1 in
      let x : (m.frame f key nonce ad p.0).0 ≡ text = ap (λ (q : List ℕ × List ℕ). q.0) e in
      let y : (m.frame f key nonce ad p.0).1 ≡ tag = ap (λ (q : List ℕ × List ℕ). q.1) e in
      let z : found text tag ≡ p.0 = rw (x, y) at (again p.0) in
      no-tag (ap (λ (w : List ℕ). (m.frame f key nonce ad w).1) z ∙ y)

  pub judged_opened : (text tag out : List ℕ) (verdict : Bool) → length (found text tag) ≡ length text →
      Decides verdict ((m.frame f key nonce ad (found text tag)).1 ≡ tag) → out ≡ cond verdict (found text tag) (zeros (found text tag)) →
      Opened m f key nonce ad text tag verdict out
  judged_opened text tag out true l d e =
      let t : (m.frame f key nonce ad (found text tag)).1 ≡ tag = d.0 refl in
      let c : (m.frame f key nonce ad (found text tag)).0 ≡ text = right text tag t in
      rw e (pairs c t)
  judged_opened text tag out false l d e = (wrong text tag (λ t. never (d.1 t)), e ∙ rw l)
