use Rattle.std.proofs.Common.{◌≡◌, ◌+◌, ◌≤◌, length, take, drop, ap, ◌∙◌, arith, length-drop}
use Rattle.std.proofs.lemmas.List.{take_rest, drop-drop}
use Rattle.lines.specs.Frames.{ad_length}
use Rattle.lines.proofs.Named.{named_is}
use Rattle.lines.proofs.frame.cut.Goals as goal

pub returns : goal.returns
returns c =
    let body = c.args.body.now in
    let long : 18 ≤ length body = c.in-len18-up.len_at_least in
    let len : c.from-len.result ≡ ad_length body = omega arith in
    let parts = c.in_ok-ad.ensures.cases in
    record {
      fits = omega (arith, parts.0, ap length (take_rest body 18), length-drop 18 body);
      nonce = named_is 16 0 body (omega arith);
      ad = parts.1 ∙ ap (take c.from-len.result) (take_rest body 18) ∙ ap (λ n. take n (drop 18 body)) len;
      text = parts.2 ∙ ap (drop c.from-len.result) (take_rest body 18) ∙ drop-drop c.from-len.result 18 body ∙ ap (λ n. drop (18 + n) body) len;
    }
