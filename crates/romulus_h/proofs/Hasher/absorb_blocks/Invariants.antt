use Rattle.std.proofs.Common.{◌*◌, take}
use Rattle.romulus_h.specs.Hashing.{Absorbs}
use Rattle.romulus_h.proofs.Hasher.absorb_blocks.Given as goal

abbrev pub invariant-loop-block : goal.invariant-loop-block
invariant-loop-block g l =
    let m = g.C.Cipher in
    Absorbs (m.answer l.fn.cipher) (m.count l.fn.cipher) l.fn.self (take (l.block-index * 16) l.text) (m.answer l.cipher) (m.count l.cipher) l.self
