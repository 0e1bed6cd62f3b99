use Rattle.std.proofs.Common.{rules}
use Rattle.byte_blocks.specs.Bytes.{g_byte}
use Rattle.std.proofs.lemmas.List.Edits.{map_over_more}
use Rattle.byte_blocks.proofs.g_block.Goals as goal

pub loop-x-preserved : goal.loop-x-preserved
loop-x-preserved c = search (rules, map_over_more g_byte)
