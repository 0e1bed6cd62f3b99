use Rattle.std.proofs.Common.{◌≡◌, map, take, Ok, sym, ap, ◌∙◌, arith}
use Rattle.std.proofs.lemmas.List.{take_all}
use Rattle.hex_lines.specs.Digits.{line_check, bytes_of}
use Rattle.hex_lines.proofs.Spelling.{pair_byte, read_in_pairs, bytes_short}
use Rattle.hex_lines.proofs.decode.Goals as goal

pub returns : goal.returns
returns g c =
    let room = g.row.ROOM in
    let line = c.args.line.now in
    let good : line_check line ≡ Ok tt = sym c.check_line.ensures ∙ c.in_ok-check_line.was in
    let pairs = take_all c.loop-high.high-index c.as_chunks.result.0.now (omega arith) ∙ c.as_chunks.ensures.front in
    let held : c.loop-high.bytes ≡ take room (bytes_of line) =
    c.loop-high.invariant ∙ ap (λ l. take room (map pair_byte l)) pairs ∙ ap (take room) (read_in_pairs line) in
    (good, held, λ h. held ∙ take_all room (bytes_of line) (omega (arith, bytes_short line good)))
