use Rattle.std.proofs.Common.{List, ◌∙◌}
use Rattle.promise.specs.Answers.{Making, Standing, fresh, Run}
use Rattle.promise.specs.Calls.{Event}
use Rattle.promise.proofs.Kept.{promises}
use Rattle.promise.proofs.Outside.{outside}
use Rattle.post.specs.Post.{standing_of, told}
use Rattle.side_by_side.specs.Turns.{transcript}
use Rattle.side_by_side.specs.Sides.{making, whole}
use Rattle.side_by_side.proofs.Lives.{whole_run, handed_on}
use Rattle.side_by_side.proofs.sides.side_by_side.Goals as goal

pub returns-in-Ok-new : goal.returns-in-Ok-new
returns-in-Ok-new g c =
    let m = g.M.Mode.scheme in
    let ok = g.met.M.Mode.keeps in
    let x : Making = making g.C.Cipher.answer g.C.Cipher.count g.S.NonceSource.pending c.args.one c.args.key.now in
    let y : Making = making g.D.Cipher.answer g.D.Cipher.count g.R.NonceSource.pending c.args.two c.args.other_key.now in
    let es : List Event = whole c.args.turns.now c.serve.new.turns c.retire-one.result.reading in
    let ds : List Event = whole c.args.other_turns.now c.serve-in-Ok-new.new.turns c.retire-two.result.reading in
    let t : Standing = standing_of g.C.Cipher.answer g.C.Cipher.count g.S.NonceSource.pending c.serve.new.post in
    let u : Standing = standing_of g.D.Cipher.answer g.D.Cipher.count g.R.NonceSource.pending c.serve-in-Ok-new.new.post in
    let a : Run m (fresh x) es t = whole_run m x _ (transcript c.args.turns.now c.serve.new.turns) t (told c.retire-one.result.reading) c.in-Ok.ensures.stands c.serve.ensures.served c.retire-one.ensures.reading in
    let b : Run m (fresh y) ds u = whole_run m y _ (transcript c.args.other_turns.now c.serve-in-Ok-new.new.turns) u (told c.retire-two.result.reading) c.in-Ok-new.ensures.stands c.serve-in-Ok-new.ensures.served c.retire-two.ensures.reading in
    record {
      promised =
          record {
            first_made = c.in-Ok.ensures.asked;
            second_made = c.in-Ok-new.ensures.asked;
            first =
                handed_on g.C.Cipher.answer g.C.Cipher.count g.S.NonceSource.pending m x es _ _ _ _ c.retire-one.ensures.cipher c.retire-one.ensures.source
                (promises m ok x (g.S.NonceSource.proper c.args.one.source) es t a);
            second =
                handed_on g.D.Cipher.answer g.D.Cipher.count g.R.NonceSource.pending m y ds _ _ _ _ c.retire-two.ensures.cipher c.retire-two.ensures.source
                (promises m ok y (g.R.NonceSource.proper c.args.two.source) ds u b);
            outside_sees_only_sizes_and_verdicts = outside m x y es ds t u a b;
          };
      inputs = (c.serve.ensures.kept, c.serve-in-Ok-new.ensures.kept);
      parts = (c.retire-one.ensures.mode ∙ c.serve.ensures.mode ∙ c.in-Ok.ensures.mode_is, c.retire-two.ensures.mode ∙ c.serve-in-Ok-new.ensures.mode ∙ c.in-Ok-new.ensures.mode_is);
    }
