-- A single call of the cipher from C.
use Rattle.std.specs.Prelude.{cond, ◌&&◌, List, ℕ, eqb, length}
use Rattle.skinny.specs.Skinny.{skinny}

-- The cipher's answer where the tweakey has 48 bytes and the block 16; else the block itself.
-- A block of 15 bytes stays as it is.
abbrev pub enciphered : (rounds : ℕ) → (tweakey block : List ℕ) → List ℕ
enciphered rounds tweakey block = cond (eqb (length tweakey) 48 && eqb (length block) 16) (skinny rounds tweakey block) block
