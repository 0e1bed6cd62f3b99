-- A list of 16 is the block of its cells, and what acts on each lane acts on each cell.
use Rattle.std.proofs.Common.{◌≡◌, ℕ, ◌<◌, List, [], ◌∷◌, map, length, sym, refl, ◌∙◌, subst}
use Rattle.std.specs.List.{range_with_len}
use Rattle.std.proofs.lemmas.List.FromFn.{fill_by_all}
use Rattle.skinny.specs.Skinny.{cell, block}
use Rattle.byte_blocks.proofs.Computed.{at_each}

-- a list of 16 is the block of its cells
pub by_cells : (t : List ℕ) → length t ≡ 16 → block (cell t) ≡ t
by_cells t e = sym (fill_by_all (cell t) t 16 0 e (λ k h. refl))

-- blocks with equal cells
pub same_cells : (f g : ℕ → ℕ) → ((i : ℕ) → f i ≡ g i) → block f ≡ block g
same_cells f g h = λ j. block (λ i. h i j)

-- v acts on lanes alone, and on each of the 256 bytes as g does
pub on_bytes : (v : List ℕ → List ℕ) (g : ℕ → ℕ)
    → ((f : ℕ → ℕ) → v (block f) ≡ block (λ i. cell (v (f i ∷ [])) 0))
    → map (λ x. cell (v (x ∷ [])) 0) (range_with_len 0 256) ≡ map g (range_with_len 0 256)
    → (t : List ℕ) → length t ≡ 16 → ((i : ℕ) → cell t i < 256) → v t ≡ map g t
on_bytes v g lanes bytes t long small =
    subst (λ (u : List ℕ). v u ≡ map g u) (by_cells t long)
    (lanes (cell t)
    ∙ same_cells (λ i. cell (v (cell t i ∷ [])) 0) (λ i. g (cell t i)) (λ i. at_each (λ x. cell (v (x ∷ [])) 0) g 256 bytes (cell t i) (small i)))
