use Rattle.std.proofs.Common.{◌*◌, ◌/◌, ◌%◌, ◌^◌, replicate, refl, rules}
use lib.Bits.{bit_or, bit_xor}
use lib.Lanes.{zip2}
use Rattle.skinny.specs.Skinny.{lfsr3}
use Rattle.skinny.proofs.Cells.{on_bytes}
use Rattle.skinny.proofs.tweakey.lfsr3.Goals as goal

pub returns : goal.returns
unfolding lfsr3
returns c =
    on_bytes
    (λ t. zip2 bit_or (zip2 (λ x n. x / 2 ^ n) t (replicate 16 1))
    (zip2 (λ x n. x * 2 ^ n % 256) (zip2 bit_xor t (zip2 (λ x n. x / 2 ^ n) t (replicate 16 6))) (replicate 16 7)))
    lfsr3 (λ f. refl) refl c.args.t c.fits-t.0 (λ i. search rules)
