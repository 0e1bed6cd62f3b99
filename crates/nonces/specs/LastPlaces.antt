-- A list of nonces, each counted at its last place only.
use Rattle.std.specs.Prelude.{Bool, false, cond, ◌||◌, ℕ, List, [], ◌∷◌}
use Rattle.std.specs.Str.{bytes_eq}

-- Whether a nonce stands on a list: of a and b, b does.
abbrev pub listed : List ℕ → List (List ℕ) → Bool
listed n [] = false
listed n (m ∷ ms) = bytes_eq n m || listed n ms

-- Each nonce of a list at its last place only: of a, b, a this is b, a. Nonces that are all different stay as they are.
abbrev pub last_places : List (List ℕ) → List (List ℕ)
last_places [] = []
last_places (n ∷ ns) = cond (listed n ns) (last_places ns) (n ∷ last_places ns)
