use Rattle.byte_blocks.proofs.Worked as bytes
use Rattle.skinny.proofs.Worked as skinny
use Rattle.romulus_n.proofs.Worked as mode_n
use Rattle.romulus_m.proofs.Worked as mode_m
use Rattle.romulus_t.proofs.Worked as mode_t
use Rattle.worked_examples.proofs.worked_examples.Goals as goal

pub returns : goal.returns
returns c = record { cipher = skinny.examples; parts = bytes.worked; mode_n = mode_n.worked; mode_m = mode_m.worked; mode_t = mode_t.worked }
