-- Digits spell bytes, and bytes are written in digits.
use Rattle.std.proofs.Common.{◌≡◌, ℕ, ◌+◌, ◌*◌, ◌/◌, ◌%◌, ◌<◌, ◌≤◌, List, [], ◌∷◌, ◌++◌, length, get_or, take, map, suc, Ok, sym, refl, ap, ◌∙◌, ⊎_elim, append_assoc, arith}
use Rattle.std.proofs.lemmas.List.{take_more, map-append}
use Rattle.std.proofs.lemmas.Bool.{cond-true, lt-ltb, cases_lt}
use Rattle.std.specs.Simd.{first_chunks}
use Rattle.hex_lines.specs.Digits.{line_check, byte_of, bytes_of, digit_of, digits_of}
use Rattle.hex_lines.proofs.Fills.{pushed_on}

pub length_bytes : (cs : List ℕ) → length (bytes_of cs) ≡ length cs / 2
length_bytes [] = refl
length_bytes (a ∷ []) = refl
length_bytes (a ∷ b ∷ cs) = let e = length_bytes cs in omega arith

-- the byte that a pair of digits spells
abbrev pub pair_byte : (pair : List ℕ) → ℕ
pair_byte pair = byte_of (get_or pair 0 0) (get_or pair 1 0)

-- a line is read pair by pair
pub read_in_pairs : (cs : List ℕ) → map pair_byte (first_chunks 2 (length cs / 2) cs) ≡ bytes_of cs
read_in_pairs [] = refl
read_in_pairs (a ∷ []) = refl
read_in_pairs (a ∷ b ∷ cs) =
    let more : length (a ∷ b ∷ cs) / 2 ≡ suc (length cs / 2) = omega arith in
    ap (λ n. map pair_byte (first_chunks 2 n (a ∷ b ∷ cs))) more ∙ ap (λ l. byte_of a b ∷ l) (read_in_pairs cs)

-- one turn of reading: the byte of one pair more is held
pub read_more : (room : ℕ) (pairs : List (List ℕ)) (i : ℕ) {was now : List ℕ} {b : ℕ} → i < length pairs → was ≡ take room (map pair_byte (take i pairs)) →
    b ≡ pair_byte (get_or pairs i []) → now ≡ take room (was ++ b ∷ []) → now ≡ take room (map pair_byte (take (i + 1) pairs))
read_more room pairs i {b = b} h inv e pushed =
    pushed_on room (map pair_byte (take i pairs)) (b ∷ []) inv pushed
    ∙ ap (take room) (ap (λ x. map pair_byte (take i pairs) ++ x ∷ []) e ∙ sym (map-append pair_byte (take i pairs) _) ∙ sym (ap (map pair_byte) (take_more pairs i [] h)))

pub length_digits : (bs : List ℕ) → length (digits_of bs) ≡ 2 * length bs
length_digits [] = refl
length_digits (b ∷ bs) = let e = length_digits bs in omega arith

pub digits_append : (xs ys : List ℕ) → digits_of (xs ++ ys) ≡ digits_of xs ++ digits_of ys
digits_append [] ys = refl
digits_append (x ∷ xs) ys = ap (λ l. digit_of (x / 16) ∷ digit_of (x % 16) ∷ l) (digits_append xs ys)

-- one turn of writing: two digits more are held
pub write_more : (room : ℕ) (start bytes : List ℕ) (i : ℕ) {was mid now : List ℕ} {high low : ℕ} → i < length bytes → was ≡ take room (start ++ digits_of (take i bytes)) →
    high ≡ digit_of (get_or bytes i 0 / 16) → low ≡ digit_of (get_or bytes i 0 % 16) → mid ≡ take room (was ++ high ∷ []) → now ≡ take room (mid ++ low ∷ []) →
    now ≡ take room (start ++ digits_of (take (i + 1) bytes))
write_more room start bytes i {high = high} {low = low} h inv e f first second =
    let done = digits_of (take i bytes) in
    let two : high ∷ low ∷ [] ≡ digits_of (get_or bytes i 0 ∷ []) = cc in
    let more : done ++ (high ∷ low ∷ []) ≡ digits_of (take (i + 1) bytes) =
    ap (λ l. done ++ l) two ∙ sym (digits_append (take i bytes) (get_or bytes i 0 ∷ [])) ∙ ap digits_of (sym (take_more bytes i 0 h)) in
    let pushed = pushed_on room ((start ++ done) ++ high ∷ []) (low ∷ []) (pushed_on room (start ++ done) (high ∷ []) inv first) second in
    let joined : ((start ++ done) ++ high ∷ []) ++ (low ∷ []) ≡ start ++ digits_of (take (i + 1) bytes) =
    append_assoc (start ++ done) (high ∷ []) (low ∷ []) ∙ append_assoc start done (high ∷ low ∷ []) ∙ ap (λ l. start ++ l) more in
    pushed ∙ ap (λ l. take room l) joined

-- a good line is not too long, and spells at most half as many bytes
good_short : (line : List ℕ) → line_check line ≡ Ok tt → length line ≤ 8192
good_short line e =
    ⊎_elim (λ h. let wrong = sym (cond-true _ _ _ (lt-ltb 8192 (length line) h)) ∙ e in let z : ◌≡◌ {A = ℕ} 0 1 = cc in absurd (omega arith)) (λ h. h) (cases_lt 8192 (length line))

pub bytes_short : (line : List ℕ) → line_check line ≡ Ok tt → length (bytes_of line) ≤ 4096
bytes_short line e = let short = good_short line e in omega (arith, length_bytes line)
