-- The table is the list of S8's values by the bit rule: all 256 are computed and compared.
use Rattle.std.proofs.Common.{zero-add, rules}
use Rattle.std.proofs.lemmas.List.FromFn.{get_or-map-range_with_len}
use Rattle.skinny.specs.Skinny.{s8}
use Rattle.skinny.proofs.sbox.s8.Goals as goal

pub returns : goal.returns
unfolding s8
returns c = get_or-map-range_with_len s8 0 256 c.args.x c.args.x 0 (search rules) (zero-add c.args.x)
