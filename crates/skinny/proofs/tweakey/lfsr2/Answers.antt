use Rattle.std.proofs.Common.{◌*◌, ◌/◌, ◌%◌, ◌^◌, replicate, refl, rules}
use lib.Bits.{bit_and, bit_or, bit_xor}
use lib.Lanes.{zip2}
use Rattle.skinny.specs.Skinny.{lfsr2}
use Rattle.skinny.proofs.Cells.{on_bytes}
use Rattle.skinny.proofs.tweakey.lfsr2.Goals as goal

pub returns : goal.returns
unfolding lfsr2
returns c =
    on_bytes
    (λ t. zip2 bit_or (zip2 (λ x n. x * 2 ^ n % 256) t (replicate 16 1))
    (zip2 bit_and (zip2 bit_xor (zip2 (λ x n. x / 2 ^ n) t (replicate 16 7)) (zip2 (λ x n. x / 2 ^ n) t (replicate 16 5))) (replicate 16 1)))
    lfsr2 (λ f. refl) refl c.args.t c.fits-t.0 (λ i. search rules)
