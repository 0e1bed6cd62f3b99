use Rattle.std.proofs.Common.{◌≡◌, ℕ, List, length, get_or, take, drop, map, sym, refl, subst}
use Rattle.std.specs.List.{range_with_len}
use Rattle.std.proofs.lemmas.List.FromFn.{fill_by_all}
use Rattle.byte_blocks.specs.Bytes.{xors}
use Rattle.cipher.specs.Cipher.{stand_in}
use Rattle.cipher.proofs.StandInBlockCipher.encrypt_block.Goals as goal

-- a block with the thirds of a tweakey added to it
abbrev added : (tweakey block : List ℕ) → List ℕ
added t b = xors (xors (xors b (take 16 t)) (take 16 (drop 16 t))) (take 16 (drop 32 t))

-- the list of n bytes f k
abbrev bytes : (ℕ → ℕ) → ℕ → List ℕ
bytes f n = map f (range_with_len 0 n)

spelled : (x : List ℕ) (n : ℕ) → length x ≡ n → bytes (λ k. get_or x k 0) n ≡ x
spelled x n l = sym (fill_by_all (λ k. get_or x k 0) x n 0 l (λ k h. refl))

-- once both are spelled out by their bytes, it computes
is_stand_in : (t b : List ℕ) → length t ≡ 48 → length b ≡ 16 → added t b ≡ stand_in t b
is_stand_in t b l m =
    let f : ℕ → ℕ = λ k. get_or t k 0 in
    subst (λ (u : List ℕ). added u b ≡ stand_in u b) (spelled t 48 l)
    (subst (λ (v : List ℕ). added (bytes f 48) v ≡ stand_in (bytes f 48) v) (spelled b 16 m) refl)

pub returns : goal.returns
returns c = rw (c.xor_into-3.ensures, c.xor_into-2.ensures, c.xor_into.ensures) (is_stand_in c.args.tweakey.now c.args.block.now c.told-tweakey c.told-block)
