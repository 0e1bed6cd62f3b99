-- The table is the list of the constants by the step rule: all 56 are computed and compared, once. The first 40 are the front of both.
use Rattle.std.proofs.Common.{◌≡◌, ℕ, ◌/◌, List, length, take, refl, ap, ◌∙◌}
use Rattle.std.specs.Simd.{first_chunks}
use Rattle.skinny.specs.Skinny.{rc}
use Rattle.skinny.specs.Schedule.{constants_in_fours}
use Rattle.skinny.specs.RoundCount.{round_count}
use Rattle.skinny.specs.declared.Rounds.{Rounds}
use Rattle.skinny.specs.declared.Rounds.TheVariants.{Forty, FiftySix}
use Rattle.skinny.specs.declared.constants.TheConstants.{ROUND_CONSTANTS}
use Rattle.skinny.proofs.constants.in_fours.Goals as goal

abbrev table : ℕ → List (List ℕ)
table n = first_chunks 4 (length (take n ROUND_CONSTANTS) / 4) (take n ROUND_CONSTANTS)

all_fours : table 56 ≡ constants_in_fours 56
unfolding rc
all_fours = refl

fours : (r : Rounds) → table (round_count r) ≡ constants_in_fours (round_count r)
fours Forty = ap (take 10) all_fours
fours FiftySix = all_fours

pub returns : goal.returns
returns c =
    c.as_chunks.ensures.front ∙ ap table c.count.ensures ∙ fours c.args.rounds
