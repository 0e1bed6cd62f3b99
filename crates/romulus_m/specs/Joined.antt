-- How the code takes a message that follows a block of data left over.
use Rattle.std.specs.Prelude.{ℕ, List, [], ◌∷◌}
use Rattle.byte_blocks.specs.Counter.{stepped}
use Rattle.cipher.specs.Cipher.{Answer, enciphered}
use Rattle.passes.specs.Passes.{absorbed}

-- The first block of the message is the tweak of the call that the block left over began; the others follow in pairs.
abbrev pub joined : Answer → (k : List ℕ) → (c : ℕ) → (s : List ℕ) → List (List ℕ) → List ℕ
joined f k c s [] = s
joined f k c s (y ∷ rest) = absorbed f k 44 (stepped (stepped c)) (enciphered f k y 44 c s) rest
