use Rattle.post.specs.Post.{standing_of}
use Rattle.bench_edge.specs.Posts.{between}
use Rattle.bench_edge.proofs.SealedOver.{Upto}
use Rattle.bench_edge.proofs.posts.seal_over.Given as goal

abbrev pub invariant-loop-number : goal.invariant-loop-number
invariant-loop-number g l =
    let stands = standing_of g.C.Cipher.answer g.C.Cipher.count g.S.NonceSource.pending in
    Upto g.M.Mode.scheme l.ad l.message (between (stands l.initial.post) l.initial.out l.initial.tag) (between (stands l.post) l.out l.tag) l.answers l.number-index
