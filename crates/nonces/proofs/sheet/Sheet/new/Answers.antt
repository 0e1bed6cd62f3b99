use Rattle.std.proofs.Common.{◌≡◌, true, sym, refl, inr, arith}
use Rattle.std.proofs.lemmas.Bool.{eqb-true}
use Rattle.nonces.specs.Nonces.{NoRepeats}
use Rattle.nonces.specs.Sources.{sheet_nonces}
use Rattle.nonces.proofs.Sheets.{pairs_apart, nonces_apart}
use Rattle.nonces.proofs.sheet.Sheet.new.Goals as goal

pub returns-then-not-all_different : goal.returns-then-not-all_different
returns-then-not-all_different c =
    let again : ¬ NoRepeats (sheet_nonces c.args.entries.now) = λ n. let k : c.all_different.result ≡ true = c.all_different.ensures.1 (rw c.as_chunks.ensures.front (nonces_apart c.args.entries.now n)) in cc in
    inr (refl, (omega (arith, eqb-true _ _ (sym c.if-not-is_empty.ensures)), omega arith), again)

pub invariant_of-result : goal.invariant_of-result
invariant_of-result c =
    record { different = pairs_apart _ _ c.as_chunks.ensures.front c.type_inv.entries (c.all_different.ensures.0 c.if-not-all_different.false) }

pub returns : goal.returns
returns c = (
  (omega (arith, eqb-true _ _ (sym c.if-not-is_empty.ensures)), omega arith),
  pairs_apart c.args.entries.now _ refl c.type_inv.entries (rw c.as_chunks.ensures.front at c.all_different.ensures.0 c.if-not-all_different.false),
  rw c.as_chunks.ensures.front,
)
