use Rattle.std.proofs.Common.{◌-◌}
use Rattle.passes.proofs.Walking.{Walking}
use Rattle.passes.proofs.State.walk.Given as goal

abbrev pub invariant-loop-i : goal.invariant-loop-i
invariant-loop-i g l =
    let m = g.C.Cipher in
    let s = l.fn.self in
    Walking (m.answer l.fn.cipher) l.key l.nonce l.domain l.way s.block l.fn.text (m.count l.fn.cipher) (m.answer l.cipher) l.self.counter l.self.block l.text l.i (m.count l.cipher)

abbrev pub decreases-loop-i : goal.decreases-loop-i
decreases-loop-i g l = l.last - l.i
