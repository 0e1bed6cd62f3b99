use Rattle.std.proofs.Common.{◌≡◌}
use Rattle.passes.proofs.Absorbing.{Absorbing}
use Rattle.passes.proofs.State.absorb.Given as goal

abbrev pub invariant-loop-pair : goal.invariant-loop-pair
invariant-loop-pair g l =
    let m = g.C.Cipher in
    let s = l.fn.self in
    (l.pair-iterator.size ≡ 32)
    × Absorbing (m.answer l.fn.cipher) l.key l.domain s.counter s.block l.text (m.count l.fn.cipher) (m.answer l.cipher) l.self.counter l.self.block l.pair-iterator.rest.now (m.count l.cipher)
