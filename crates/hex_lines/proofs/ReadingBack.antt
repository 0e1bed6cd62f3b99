-- What is written in digits is read back.
use Rattle.std.proofs.Common.{◌≡◌, ℕ, suc, ◌+◌, ◌*◌, ◌/◌, ◌%◌, ◌<◌, List, [], ◌∷◌, length, is_none, not, true, Some, None, unwrap_or, refl, ap, ◌∙◌, arith}
use Rattle.std.specs.List.{position_or_len}
use Rattle.std.proofs.lemmas.Bool.{cond-true, cond-false, le-ltb, ne_eqb}
use Rattle.std.proofs.lemmas.Bool.Decides.{nat_tests}
use Rattle.hex_lines.specs.Digits.{digit_value, first_bad, digits_check, byte_of, bytes_of, digit_of, digits_of, Bytes, ReadBack}
use Rattle.hex_lines.proofs.Spelling.{length_digits}

pub digit_back : (v : ℕ) → v < 16 → digit_value (digit_of v) ≡ Some v
digit_back v h = grind (arith, nat_tests)

byte_back : (b : ℕ) → b < 256 → byte_of (digit_of (b / 16)) (digit_of (b % 16)) ≡ b
byte_back b h =
    let high = digit_back (b / 16) (omega arith) in
    let low = digit_back (b % 16) (omega arith) in
    ap (λ o. unwrap_or o 0 * 16 + unwrap_or (digit_value (digit_of (b % 16))) 0) high ∙ ap (λ o. b / 16 * 16 + unwrap_or o 0) low ∙ omega arith

bytes_back : (bs : List ℕ) → Bytes bs → bytes_of (digits_of bs) ≡ bs
bytes_back [] h = refl
bytes_back (b ∷ bs) h = let e = byte_back b (h 0) in let f = bytes_back bs (λ i. h (suc i)) in cc

all_good : (bs : List ℕ) → Bytes bs → position_or_len (λ c. is_none (digit_value c)) (digits_of bs) ≡ length (digits_of bs)
all_good [] h = refl
all_good (b ∷ bs) h =
    let small = h 0 in
    let good : (v : ℕ) → v < 16 → not (is_none (digit_value (digit_of v))) ≡ true = λ v e. ap (λ o. not (is_none o)) (digit_back v e) in
    cond-true _ _ _ (good (b / 16) (omega arith)) ∙ ap (λ n. 1 + n) (cond-true _ _ _ (good (b % 16) (omega arith)) ∙ ap (λ n. 1 + n) (all_good bs (λ i. h (suc i)))) ∙ omega arith

none_bad : (bs : List ℕ) → Bytes bs → first_bad (digits_of bs) ≡ None
none_bad bs h =
    let all = all_good bs h in
    cond-false _ _ _ (le-ltb (position_or_len (λ c. is_none (digit_value c)) (digits_of bs)) (length (digits_of bs)) (omega arith))

pub read_back : (bs : List ℕ) → Bytes bs → ReadBack bs
read_back bs h =
    let long = length_digits bs in
    record {
      good = λ few.
          cond-false _ _ _ (le-ltb 8192 (length (digits_of bs)) (omega arith)) ∙ ap (λ o. digits_check o (length (digits_of bs))) (none_bad bs h)
          ∙ cond-false _ _ _ (ne_eqb (length (digits_of bs) % 2) 1 (λ e. omega arith));
      same = bytes_back bs h;
    }
