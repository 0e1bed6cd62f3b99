use Rattle.std.proofs.Common.{◌≡◌, ℕ, ◌+◌, ◌*◌, ◌/◌, ◌<◌, List, [], length, get_or, refl, ap, ◌∙◌, subst, zero-add, arith}
use Rattle.std.proofs.lemmas.List.FromFn.{length-map-range_with_len, get_or-map-range_with_len}
use Rattle.skinny.specs.RoundCount.{round_count}
use Rattle.skinny.specs.Schedule.{InRound, four_constants, constants_in_fours}
use Rattle.skinny.specs.Skinny.{rounds, skinny}
use Rattle.skinny.specs.declared.Rounds.{Rounds}
use Rattle.skinny.specs.declared.Rounds.TheVariants.{Forty, FiftySix}
use Rattle.skinny.proofs.encryption.answer.Goals as goal

-- the rounds come in fours
by_fours : (r : Rounds) → 4 * (round_count r / 4) ≡ round_count r
by_fours Forty = refl
by_fours FiftySix = refl

how_many : (r : Rounds) (fours : List (List ℕ)) → fours ≡ constants_in_fours (round_count r) → length fours ≡ round_count r / 4
how_many r fours e = ap length e ∙ length-map-range_with_len (λ i. four_constants (4 * i)) 0 (round_count r / 4)

four_at : (r : Rounds) (fours : List (List ℕ)) (i : ℕ) → fours ≡ constants_in_fours (round_count r) → i < length fours → get_or fours i [] ≡ four_constants (4 * i)
four_at r fours i e h =
    ap (λ (l : List (List ℕ)). get_or l i []) e
    ∙ get_or-map-range_with_len (λ k. four_constants (4 * k)) 0 (round_count r / 4) i i [] (omega (arith, how_many r fours e)) (zero-add i)

pub loop-constants-init : goal.loop-constants-init
unfolding rounds
loop-constants-init c = (c.new-thirds.ensures, refl)

pub loop-constants-preserved : goal.loop-constants-preserved
loop-constants-preserved c =
    let T = c.args.tweakey.now in
    let b = c.args.block.now in
    let i = c.loop-constants.constants-index in
    let n : ℕ = 4 * i in
    let e : n + 4 ≡ 4 * (i + 1) = omega arith in
    let k = four_at c.args.rounds _ i c.in_fours-constants-items.ensures c.loop-constants-test.true in (
      subst (λ (m : ℕ). InRound T m c.next_four.result.1) e (c.next_four.ensures.next T n c.loop-constants.invariant.0),
      c.four_rounds-s.ensures T b n k (c.next_four.ensures.tweakeys T n c.loop-constants.invariant.0) c.loop-constants.invariant.1 ∙ ap (rounds T b) e,
    )

pub returns : goal.returns
unfolding skinny
returns c =
    let e : 4 * c.loop-constants.constants-index ≡ round_count c.args.rounds = omega (arith, by_fours c.args.rounds, how_many c.args.rounds _ c.in_fours-constants-items.ensures) in
    c.loop-constants.invariant.1 ∙ ap (rounds c.args.tweakey.now c.args.block.now) e
