use Rattle.std.proofs.Common.{◌≡◌}
use Rattle.post.specs.Post.{standing_of}
use Rattle.side_by_side.proofs.Served.{Upto}
use Rattle.side_by_side.proofs.turns.serve.Given as goal

abbrev pub invariant-loop-turn : goal.invariant-loop-turn
invariant-loop-turn g l =
    (l.post.mode ≡ l.initial.post.mode) × Upto g.M.Mode.scheme (standing_of g.C.Cipher.answer g.C.Cipher.count g.S.NonceSource.pending l.initial.post) l.initial.turns l.turns l.turn-index
    (standing_of g.C.Cipher.answer g.C.Cipher.count g.S.NonceSource.pending l.post)
