-- An answer, written.
use Rattle.std.proofs.Common.{◌≡◌, ℕ, ◌+◌, ◌*◌, ◌≤◌, List, [], ◌∷◌, ◌++◌, length, take, ap, ◌∙◌, arith}
use Rattle.std.proofs.lemmas.List.{take_all}
use Rattle.hex_lines.specs.Digits.{digits_of}
use Rattle.hex_lines.proofs.Fills.{pushed_on}
use Rattle.hex_lines.proofs.Spelling.{length_digits}

-- 00, and the digits of the result behind it
pub result_written : (room : ℕ) (result : List ℕ) {h₀ h₁ h₂ : List ℕ} → 2 + 2 * length result ≤ room → h₀ ≡ [] →
    h₁ ≡ take room (h₀ ++ digits_of (0 ∷ [])) → h₂ ≡ take room (h₁ ++ digits_of result) → h₂ ≡ digits_of (0 ∷ result)
result_written room result fits e₀ e₁ e₂ =
    pushed_on room (digits_of (0 ∷ [])) (digits_of result) (e₁ ∙ ap (λ h. take room (h ++ digits_of (0 ∷ []))) e₀) e₂
    ∙ take_all room (digits_of (0 ∷ result)) (omega (arith, length_digits (0 ∷ result)))
