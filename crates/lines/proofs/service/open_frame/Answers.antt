use Rattle.std.proofs.Common.{◌≡◌, ◌≤◌, [], length, ap, arith}
use Rattle.hex_lines.proofs.Fills.{pushed_whole}
use Rattle.lines.proofs.service.open_frame.Goals as goal

pub returns : goal.returns
returns g c =
    let message = c.open.new.text in
    let short : length message ≤ 4096 = omega (arith, ap length c.copy_from_slice.ensures.after) in
    let h : c.extend.new.self ≡ message = pushed_whole 4112 [] message (omega arith) (rw c.new-result.ensures at c.extend.ensures) in
    rw h (rw c.copy_from_slice.ensures.after at c.if-not-open.ensures)
