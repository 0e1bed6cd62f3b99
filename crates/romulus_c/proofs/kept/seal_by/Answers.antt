use Rattle.std.proofs.Common.{◌≡◌, ℕ, List, [], ◌∷◌, sym, subst, arith}
use Rattle.promise.specs.Calls.{Call, Seal, Read}
use Rattle.post.specs.Post.{sealed}
use Rattle.romulus_c.specs.declared.kept.RomulusPostAnswer.{RomulusPostAnswer}
use Rattle.romulus_c.specs.Kept.{Carried, reply as kept_reply}
use Rattle.romulus_c.proofs.Carrying.{call_room, call_carried}
use Rattle.romulus_c.proofs.kept.seal_by.Goals as goal

pub carry-requires : goal.carry-requires
carry-requires g c =
    call_room g.M.Mode.scheme g.met.M.Mode.keeps c.args.post.now _ _ _ _ c.retire.result.reading
    c.requires.sound c.load-inner.ensures c.seal-outcome.ensures.stepped c.retire.ensures.reading.fits

pub returns : goal.returns
returns g c =
    let m = g.M.Mode.scheme in
    let p = c.args.post.now in
    let call : Call = Seal c.args.ad.now c.args.message.now c.args.out.now c.args.tag.now in
    let written : List (List ℕ) = c.seal-outcome.new.out ∷ c.seal-outcome.new.tag ∷ [] in
    let h : Carried m p call (sealed c.seal-outcome.result written) c.carry.new.post =
    call_carried m g.met.M.Mode.keeps p call (sealed c.seal-outcome.result written) _ _ c.retire.result.reading
    c.requires.sound c.load-inner.ensures c.seal-outcome.ensures.stepped c.retire.ensures.reading.fits
    (λ (e : call ≡ Read). let z : ◌≡◌ {A = ℕ} 0 1 = cc in omega arith) c.carry.new.post c.carry.ensures in
    subst (λ (r : RomulusPostAnswer). Carried m p call (kept_reply r written) c.carry.new.post) (sym c.into.ensures) h
