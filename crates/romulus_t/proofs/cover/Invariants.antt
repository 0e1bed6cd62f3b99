use Rattle.std.proofs.Common.{◌-◌}
use Rattle.romulus_t.specs.Streams.{Covering}
use Rattle.romulus_t.proofs.cover.Given as goal

abbrev pub invariant-loop-i : goal.invariant-loop-i
invariant-loop-i g l =
    let m = g.C.Cipher in
    Covering (m.answer l.initial.cipher) (m.count l.initial.cipher) l.nonce l.initial.stream.block_key l.initial.text (m.answer l.cipher) (m.count l.cipher) l.stream.counter l.stream.block_key l.text l.i

abbrev pub decreases-loop-i : goal.decreases-loop-i
decreases-loop-i g l = l.last - l.i
