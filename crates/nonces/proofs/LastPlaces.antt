-- Of any list of nonces, those at their last places are what a source owes.
use Rattle.std.proofs.Common.{◌≡◌, ℕ, zero, suc, true, false, ◌≢◌, List, [], ◌∷◌, sym, refl, ap, ⊎_elim, arith}
use Rattle.std.specs.List.{AllByRecursion}
use Rattle.std.proofs.ByRecursion.{All-get_or, All-from_get_or}
use Rattle.std.specs.Str.{bytes_eq}
use Rattle.std.proofs.lemmas.Slice.Eq.{bytes_eq-Decides}
use Rattle.std.proofs.lemmas.Bool.{or_parts, or_cases, both_ways, cond-true, cond_both, true≢false}
use Rattle.nonces.specs.Nonces.{NoRepeats, Nonce, NoncesProper}
use Rattle.nonces.specs.Sources.{sheet_nonces}
use Rattle.nonces.specs.LastPlaces.{listed, last_places}
use Rattle.nonces.specs.Proper.{pairs_all}
use Rattle.nonces.proofs.Repeats.{rest_apart}

pub none_repeats : {X : Type 0} → NoRepeats {X = X} []
none_repeats i j (h, l) d e = omega arith

pub apart_from_all : {X : Type 0} (x : X) (xs : List X) → AllByRecursion (λ y. x ≢ y) xs → NoRepeats xs → NoRepeats (x ∷ xs)
apart_from_all x xs a n i zero (h, l) d e = omega arith
apart_from_all x xs a n zero (suc j) (h, l) d e = All-get_or (λ y. x ≢ y) xs j d (omega arith) a e
apart_from_all x xs a n (suc i) (suc j) (h, l) d e = n i j (omega arith, omega arith) d e

pub unlisted : (n : List ℕ) (ns : List (List ℕ)) → listed n ns ≡ false → AllByRecursion (λ m. n ≢ m) ns
unlisted n [] e = tt
unlisted n (m ∷ ms) e =
    let p = or_parts (bytes_eq n m) (listed n ms) e in
    ((λ h. both_ways (bytes_eq n m) p.0 ((bytes_eq-Decides n m).1 h)), unlisted n ms p.1)

-- what holds of a list holds of its last places
pub last_places_all : (P : List ℕ → Type 0) (ns : List (List ℕ)) → AllByRecursion P ns → AllByRecursion P (last_places ns)
last_places_all P [] h = tt
last_places_all P (n ∷ ns) h =
    let r : AllByRecursion P (last_places ns) = last_places_all P ns h.1 in
    cond_both (listed n ns) (last_places ns) (n ∷ last_places ns) (λ l. AllByRecursion P l) (λ _. r) (λ _. (h.0, r))

pub last_places_apart : (ns : List (List ℕ)) → NoRepeats (last_places ns)
last_places_apart [] = none_repeats
last_places_apart (n ∷ ns) =
    let r : NoRepeats (last_places ns) = last_places_apart ns in
    cond_both (listed n ns) (last_places ns) (n ∷ last_places ns) (λ l. NoRepeats l) (λ _. r)
    (λ e. apart_from_all n (last_places ns) (last_places_all (λ m. n ≢ m) ns (unlisted n ns e)) r)

pub sheet_all : (entries : List ℕ) → AllByRecursion Nonce (sheet_nonces entries)
sheet_all entries = pairs_all _

-- with no condition on the entries
pub last_places_proper : (entries : List ℕ) → NoncesProper (last_places (sheet_nonces entries))
last_places_proper entries = record { nonces = last_places_all Nonce (sheet_nonces entries) (sheet_all entries); no_repeats = last_places_apart (sheet_nonces entries) }

-- ---- and of nonces that are all different they are all
listed_apart : (n : List ℕ) (ns : List (List ℕ)) → listed n ns ≡ true → AllByRecursion (λ m. n ≢ m) ns → ⊥
listed_apart n [] e a = true≢false (sym e)
listed_apart n (m ∷ ms) e a = ⊎_elim (λ s. a.0 ((bytes_eq-Decides n m).0 s)) (λ r. listed_apart n ms r a.1) (or_cases (bytes_eq n m) (listed n ms) e)

first_apart : {X : Type 0} (x : X) (xs : List X) → NoRepeats (x ∷ xs) → AllByRecursion (λ y. x ≢ y) xs
first_apart x xs n = All-from_get_or (λ y. x ≢ y) xs x (λ i h e. n 0 (suc i) (omega arith, omega arith) x e)

pub last_places_same : (ns : List (List ℕ)) → NoRepeats ns → last_places ns ≡ ns
last_places_same [] n = refl
last_places_same (x ∷ xs) n =
    cond_both (listed x xs) (last_places xs) (x ∷ last_places xs) (λ l. l ≡ x ∷ xs)
    (λ e. absurd (listed_apart x xs e (first_apart x xs n)))
    (λ e. ap (λ (l : List (List ℕ)). x ∷ l) (last_places_same xs (rest_apart x xs n)))

-- a nonce that comes again is passed over
pub passed_over : (n : List ℕ) (ns : List (List ℕ)) → listed n ns ≡ true → last_places (n ∷ ns) ≡ last_places ns
passed_over n ns e = cond-true _ _ _ e
