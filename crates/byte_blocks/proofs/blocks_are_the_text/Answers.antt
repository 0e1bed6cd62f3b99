use Rattle.byte_blocks.proofs.Pieces.{blocks_cut}
use Rattle.byte_blocks.proofs.blocks_are_the_text.Goals as goal

pub returns : goal.returns
returns c = blocks_cut c.args.text.now
