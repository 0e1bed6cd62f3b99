-- The worked examples of the whole library, as one theorem about the definitions.
use Rattle.byte_blocks.specs.Examples.{Examples as BytesExamples}
use Rattle.skinny.specs.Examples.{Examples as SkinnyExamples}
use Rattle.romulus_n.specs.Examples.{Examples as NExamples}
use Rattle.romulus_m.specs.Examples.{Examples as MExamples}
use Rattle.romulus_t.specs.Examples.{Examples as TExamples}

-- Each field holds the examples of one crate, with their values.
pub record WorkedExamples : Type 0 where
  -- three entries of S8 and the first seven round constants
  pub cipher : SkinnyExamples
  -- counter(8) and counter(56), the two paddings, G on two bytes
  pub parts : BytesExamples
  -- the frame of all-empty input on the bench stand-in, and costs, in each mode
  pub mode_n : NExamples
  pub mode_m : MExamples
  pub mode_t : TExamples
