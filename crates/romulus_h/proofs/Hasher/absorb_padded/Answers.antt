use Rattle.std.proofs.Common.{◌≡◌, ℕ, ◌*◌, ◌/◌, ◌<◌, List, ◌++◌, length, take, drop, rules}
use Rattle.byte_blocks.specs.Block.{padded, ipad_star}
use Rattle.romulus_h.proofs.Hashes.{absorbs_both, absorbs_as, absorbs_none, star_parts, star_none}
use Rattle.romulus_h.proofs.Hasher.absorb_padded.Goals as goal

whole : (t rest x : List ℕ) → x ≡ padded rest → rest ≡ drop (length t / 16 * 16) t → 0 < length t → take (length t / 16 * 16) t ++ x ≡ ipad_star t
whole t rest x e r h = rw (e, r) (star_parts t h)

pub returns-then-not-is_empty : goal.returns-then-not-is_empty
returns-then-not-is_empty g c =
    let p = c.absorb_blocks-last.ensures in
    absorbs_as (whole _ _ _ c.pad.ensures p.rest (search rules)) (absorbs_both p.absorbed c.absorb_block.ensures)

pub returns-else-not-is_empty : goal.returns-else-not-is_empty
returns-else-not-is_empty g c = absorbs_as (star_none c.args.text.now (search rules)) (absorbs_none _ _ _ (g.met.C.Cipher.bounded _))
