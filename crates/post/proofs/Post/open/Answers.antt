use Rattle.std.proofs.Common.{rules, ◌≡◌, false, sym, ◌∙◌}
use Rattle.post.specs.Post.{standing_of}
use Rattle.post.proofs.Judged.{judged_fits}
use Rattle.post.proofs.Post.open.Goals as goal

pub returns-else-right-clause-stepped : goal.returns-else-right-clause-stepped
returns-else-right-clause-stepped g c =
    let n : c.block_of.result ≡ c.args.nonce.now = search rules in
    let t : c.block_of-2.result ≡ c.args.tag.now = search rules in
    let o = rw (n, t, c.copy_from_slice.ensures.after, c.if-right.false) at c.open_in_place-right.ensures.opened in
    record {
      fits = judged_fits g.M.Mode.scheme (standing_of g.C.Cipher.answer g.C.Cipher.count g.S.NonceSource.pending c.args.self.now) c.args.nonce.now c.args.ad.now c.args.text.now c.args.tag.now c.args.out.now _ _ false c.open_in_place-right.new.text _ (sym c.ask_open.ensures ∙ c.in_default.is) o (search rules);
      leaves = search rules;
    }
