-- That the nonces of a counting source and of a sheet are what a source owes.
-- These are proofs, checked like any other and nothing to believe; they stand here since the sources hand them over as ghost members.
use Rattle.std.specs.Prelude.{◌≡◌, ℕ, zero, suc, ◌+◌, ◌%◌, ◌^◌, ◌<◌, List, [], ◌∷◌, ◌++◌, length, map, slice_index, refl}
use Rattle.std.proofs.Common.{sym, ap, ◌∙◌, arith}
use Rattle.std.specs.List.{AllByRecursion}
use Rattle.std.specs.Int.Digits.{number_from_digits}
use Rattle.std.proofs.ByRecursion.{All-append, All-from_get_or}
use Rattle.std.proofs.lemmas.List.FromFn.{length-map-range_with_len, get_or-map-range_with_len}
use Rattle.std.proofs.lemmas.List.{append_cancel_left, length-append}
use Rattle.nonces.specs.Nonces.{NoRepeats, Nonce, NoncesProper}
use Rattle.nonces.specs.Sources.{big_endian, counted, nonce_of}

-- ---- a number in eight bytes
-- eight bytes give their number back
pub number_big_endian : (n : ℕ) → n < 2 ^ 64 → number_from_digits 256 (big_endian n) ≡ n
number_big_endian n h = omega arith

pub big_endian_apart : (m n : ℕ) → m < 2 ^ 64 → n < 2 ^ 64 → big_endian m ≡ big_endian n → m ≡ n
big_endian_apart m n h k e = sym (number_big_endian m h) ∙ ap (number_from_digits 256) e ∙ number_big_endian n k

low : (n : ℕ) → n % 256 < 256
low n = omega arith

big_endian_bytes : (n : ℕ) → AllByRecursion (λ b. b < 256) (big_endian n)
big_endian_bytes n = (low _, (low _, (low _, (low _, (low _, (low _, (low _, (low _, tt))))))))

two_halves : (a : List ℕ) (n : ℕ) → length a ≡ 8 → AllByRecursion (λ b. b < 256) a → Nonce (a ++ big_endian n)
two_halves a n l b = record { sixteen = length-append a (big_endian n) ∙ ap (λ (k : ℕ). k + 8) l; bytes = All-append (λ b. b < 256) a (big_endian n) b (big_endian_bytes n) }

-- ---- counting
counted_nonces : (prefix : List ℕ) (first amount : ℕ) → length prefix ≡ 8 → AllByRecursion (λ b. b < 256) prefix → AllByRecursion Nonce (counted prefix first amount)
counted_nonces prefix first zero l b = tt
counted_nonces prefix first (suc amount) l b = (two_halves prefix first l b, counted_nonces prefix (first + 1) amount l b)

counted_apart : (prefix : List ℕ) (first amount : ℕ) → first + amount < 2 ^ 64 → NoRepeats (counted prefix first amount)
counted_apart prefix first amount w i j (h, l) d e =
    let f : ℕ → List ℕ = λ count. prefix ++ big_endian count in
    let n : j < amount = omega (arith, length-map-range_with_len f first amount) in
    let same = sym (get_or-map-range_with_len f first amount i _ d (omega arith) refl) ∙ e ∙ get_or-map-range_with_len f first amount j _ d n refl in
    let k : first + i ≡ first + j = big_endian_apart (first + i) (first + j) (omega arith) (omega arith) (append_cancel_left prefix _ _ same) in
    omega arith

pub counted_proper : (prefix : List ℕ) (first amount : ℕ) → length prefix ≡ 8 → ((i : ℕ) → slice_index prefix i < 256) → first + amount < 2 ^ 64 → NoncesProper (counted prefix first amount)
counted_proper prefix first amount l b w =
    record { nonces = counted_nonces prefix first amount l (All-from_get_or (λ b. b < 256) prefix 0 (λ i h. b i)); no_repeats = counted_apart prefix first amount w }

-- ---- sheets
pub pairs_all : (pairs : List (List ℕ)) → AllByRecursion Nonce (map nonce_of pairs)
pairs_all [] = tt
pairs_all (p ∷ ps) = (two_halves (big_endian (slice_index p 0)) (slice_index p 1) refl (big_endian_bytes (slice_index p 0)), pairs_all ps)

pub sheet_proper : (pairs : List (List ℕ)) → NoRepeats (map nonce_of pairs) → NoncesProper (map nonce_of pairs)
sheet_proper pairs n = record { nonces = pairs_all pairs; no_repeats = n }
