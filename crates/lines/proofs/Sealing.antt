-- A sealed frame, put together and measured.
use Rattle.std.proofs.Common.{◌≡◌, ℕ, ◌+◌, ◌≤◌, List, [], ◌∷◌, ◌++◌, length, take, ap, ◌∙◌, append_assoc, arith, length-append}
use Rattle.std.proofs.lemmas.List.{take_all}
use Rattle.hex_lines.proofs.Fills.{pushed_on}
use Rattle.lines.specs.declared.frame.Variant.{Variant}
use Rattle.hex_lines.specs.Faults.{two_bytes}
use Rattle.lines.specs.Services.{letter_of, sealed_frame}

pub length_sealed : (v : Variant) (nonce ad text tag : List ℕ) → length nonce ≡ 16 → length tag ≡ 16 →
    length (sealed_frame v nonce ad (text, tag)) ≡ 35 + length ad + length text
unfolding sealed_frame
length_sealed v nonce ad text tag n t =
    omega (
      arith,
      length-append nonce (two_bytes (length ad) ++ (ad ++ (text ++ tag))),
      length-append (two_bytes (length ad)) (ad ++ (text ++ tag)),
      length-append ad (text ++ tag),
      length-append text tag,
    )

regroup : (a b c d e : List ℕ) → (((a ++ b) ++ c) ++ d) ++ e ≡ a ++ (b ++ (c ++ (d ++ e)))
regroup a b c d e = simp append_assoc

-- six pushes make the frame
pub put_together_lem : (room : ℕ) (v : Variant) (nonce ad text tag : List ℕ) {h₀ h₁ h₂ h₃ h₄ h₅ h₆ : List ℕ} {letter : ℕ} {len : List ℕ} →
    length nonce ≡ 16 → length tag ≡ 16 → 35 + length ad + length text ≤ room → letter ≡ letter_of v → len ≡ two_bytes (length ad) → h₀ ≡ [] →
    h₁ ≡ take room (h₀ ++ (letter ∷ [])) → h₂ ≡ take room (h₁ ++ nonce) → h₃ ≡ take room (h₂ ++ len) → h₄ ≡ take room (h₃ ++ ad) → h₅ ≡ take room (h₄ ++ text) → h₆ ≡ take room (h₅ ++ tag) →
    h₆ ≡ sealed_frame v nonce ad (text, tag)
unfolding sealed_frame
put_together_lem room v nonce ad text tag {letter = letter} {len = len} n t few l b p₀ p₁ p₂ p₃ p₄ p₅ p₆ =
    let long = length_sealed v nonce ad text tag n t in
    let q₂ = pushed_on room (letter ∷ []) nonce (p₁ ∙ ap (λ h. take room (h ++ (letter ∷ []))) p₀) p₂ in
    let q₄ = pushed_on room ((letter ∷ nonce) ++ len) ad (pushed_on room (letter ∷ nonce) len q₂ p₃) p₄ in
    let q₆ = pushed_on room ((((letter ∷ nonce) ++ len) ++ ad) ++ text) tag (pushed_on room (((letter ∷ nonce) ++ len) ++ ad) text q₄ p₅) p₆ in
    let whole : ((((letter ∷ nonce) ++ len) ++ ad) ++ text) ++ tag ≡ sealed_frame v nonce ad (text, tag) =
    ap (λ h. letter ∷ h) (regroup nonce len ad text tag) ∙ rw (l, b) in
    q₆ ∙ ap (λ h. take room h) whole ∙ take_all room (sealed_frame v nonce ad (text, tag)) (omega arith)
