use Rattle.std.proofs.Common.{◌≡◌, [], ap, ◌∙◌, arith}
use Rattle.hex_lines.proofs.Fills.{pushed_whole}
use Rattle.romulus_h.specs.declared.Hasher.{Hasher}
use Rattle.romulus_h.specs.Hashing.{digest_after}
use Rattle.lines.proofs.service.digest.Goals as goal

pub returns : goal.returns
returns g c =
    let whole : c.extend.new.self ≡ c.bytes.result = pushed_whole 4112 [] c.bytes.result (omega arith) (rw c.new-result.ensures at c.extend.ensures) in
    whole ∙ c.bytes.ensures ∙ c.finish.ensures.digest ∙ ap (λ (s : Hasher). digest_after (g.C.Cipher.answer c.args.cipher.now) s c.args.text.now) c.new.ensures
