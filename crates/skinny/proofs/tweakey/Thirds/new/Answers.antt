use Rattle.std.proofs.Common.{lit≤}
use Rattle.std.proofs.lemmas.List.{take-take}
use Rattle.skinny.specs.Skinny.{updated, tk1, tk2, tk3}
use Rattle.skinny.proofs.tweakey.Thirds.new.Goals as goal

pub returns : goal.returns
unfolding updated tk1 tk2 tk3
returns c = record { first = take-take 16 16 _ (lit≤ tt); second = take-take 16 16 _ (lit≤ tt); third = take-take 16 16 _ (lit≤ tt) }
