use Rattle.std.proofs.Common.{◌≡◌, length, ap, ◌∙◌, arith}
use Rattle.byte_blocks.specs.Counter.{counter, counter_bytes}
use Rattle.romulus_h.proofs.Hashes.{absorbs_both, absorbs_all}
use Rattle.romulus_t.specs.ModeT.{message_blocks, tag_input}
use Rattle.romulus_t.proofs.Tags.{input_parts}
use Rattle.romulus_t.proofs.tag_digest.Goals as goal

pub returns : goal.returns
returns g c =
    let n = c.args.nonce.now in
    let ad = c.args.ad.now in
    let text = c.args.text.now in
    let blocks : c.div_ceil.result ≡ message_blocks (length text) = c.div_ceil.ensures ∙ omega arith in
    let last : c.counter_bytes.result ≡ counter_bytes (counter (message_blocks (length text))) = c.counter_bytes.ensures ∙ ap counter_bytes (c.counter_at.ensures ∙ ap counter blocks) in
    let taken = absorbs_both (absorbs_both c.absorb_padded.ensures c.absorb_padded-2.ensures) c.absorb_block.ensures in
    let all = absorbs_all (tag_input n ad text) c.counter_bytes.result _ c.new-hasher.ensures taken (input_parts n ad text _ last) c.finish.ensures.digest c.finish.ensures.called in
    record { digest = all.0; called = all.1 }
