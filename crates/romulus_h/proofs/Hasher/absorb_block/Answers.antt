use Rattle.std.proofs.Common.{refl}
use Rattle.romulus_h.proofs.Hashes.{absorbs_whole}
use Rattle.romulus_h.proofs.Hasher.absorb_block.Goals as goal

pub returns-in-Some : goal.returns-in-Some
returns-in-Some g c =
    let p = c.compress.ensures in
    absorbs_whole c.args.self.now _ c.in-Some.half c.args.block.now c.in-Some.is refl p.left p.right p.whole p.called
