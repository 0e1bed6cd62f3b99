use Rattle.std.proofs.Common.{◌≡◌, ℕ, ◌*◌, ◌/◌, ◌<◌, List, ◌++◌, length, take, drop, ap, ◌∙◌, arith}
use Rattle.std.proofs.lemmas.List.{length-drop, take-append-drop}
use Rattle.romulus_h.proofs.Hashes.{absorbs_end, ends_full, ends_half}
use Rattle.romulus_h.proofs.Hasher.finish.Goals as goal

short : (t rest : List ℕ) → rest ≡ drop (length t / 16 * 16) t → length rest < 16
short t rest e = omega (arith, ap length e, length-drop (length t / 16 * 16) t)

whole : (t rest : List ℕ) → rest ≡ drop (length t / 16 * 16) t → take (length t / 16 * 16) t ++ rest ≡ t
whole t rest e = ap (λ (x : List ℕ). take (length t / 16 * 16) t ++ x) e ∙ take-append-drop (length t / 16 * 16) t

pub returns-in-Some : goal.returns-in-Some
returns-in-Some g c =
    let text = c.args.text.now in
    let b = c.absorb_blocks-rest in
    let t = b.result.now in
    let p = c.compress.ensures in
    let e = ends_full _ b.new.self _ _ _ t _ c.mark-chain.ensures (short text t b.ensures.rest) c.in-Some.half c.in-Some.is c.end_block.ensures p.whole p.left p.right p.called in
    let all = absorbs_end text t _ b.ensures.absorbed (whole text t b.ensures.rest) e.0 e.1 in
    record { digest = all.0; called = all.1 }

pub returns-in-None : goal.returns-in-None
returns-in-None g c =
    let text = c.args.text.now in
    let b = c.absorb_blocks-rest in
    let t = b.result.now in
    let p = c.compress-in-None.ensures in
    let e =
    ends_half _ b.new.self _ _ _ t _ c.mark-chain.ensures (short text t b.ensures.rest) _ c.in-None.is c.end_block-in-None.ensures c.end_block-in-None-2.ensures p.left p.right p.called in
    let all = absorbs_end text t _ b.ensures.absorbed (whole text t b.ensures.rest) e.0 e.1 in
    record { digest = all.0; called = all.1 }
