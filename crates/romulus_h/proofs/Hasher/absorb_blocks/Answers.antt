use Rattle.std.proofs.Common.{◌≡◌, ℕ, ◌+◌, ◌*◌, ◌/◌, ◌<◌, List, ◌++◌, length, get_or, take, sym, ap, ◌∙◌, arith}
use Rattle.std.proofs.Math.Seq.{take-add}
use Rattle.std.specs.Simd.{first_chunks}
use Rattle.romulus_h.proofs.Hashes.{absorbs_both, absorbs_as, chunk_at}
use Rattle.romulus_h.proofs.Hasher.absorb_blocks.Goals as goal

-- one block more
front_more : (xs d : List ℕ) (bs : List (List ℕ)) (i k : ℕ) → bs ≡ first_chunks 16 k xs → i < k → take (i * 16) xs ++ get_or bs i d ≡ take ((i + 1) * 16) xs
front_more xs d bs i k e h =
    let s : i * 16 + 16 ≡ (i + 1) * 16 = omega arith in
    rw (e, chunk_at 16 k i xs d h) (sym (take-add (i * 16) 16 xs) ∙ ap (λ (j : ℕ). take j xs) s)

pub loop-block-preserved : goal.loop-block-preserved
loop-block-preserved g c =
    let a = c.as_chunks.ensures in
    absorbs_as (front_more c.args.text.now _ _ c.loop-block.block-index (length c.args.text.now / 16) a.front (omega (arith, a.front_len, c.loop-block-test.true)))
    (absorbs_both c.loop-block.invariant c.absorb_block.ensures)
