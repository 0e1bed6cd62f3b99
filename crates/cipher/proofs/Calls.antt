-- Calls of a cipher, one lot after another.
use Rattle.std.proofs.Common.{◌≡◌, ℕ, ◌+◌, ◌%◌, ◌^◌, ◌<◌, refl, ap, ◌∙◌, arith}
use native.Mathlib.Nat.{mod-add-mod}
use Rattle.cipher.specs.Cipher.{Answer, Called}

-- no call
pub called_none : (f : Answer) (n : ℕ) → n < 2 ^ 64 → Called f n 0 f n
called_none f n h = record { same = refl; counted = omega arith }

-- a calls, then b
pub called_then : {f f' f'' : Answer} {n n' n'' a b : ℕ} → Called f n a f' n' → Called f' n' b f'' n'' → Called f n (a + b) f'' n''
called_then {n = n} {a = a} {b = b} p q =
    record {
      same = q.same ∙ p.same;
      counted = q.counted ∙ ap (λ (x : ℕ). (x + b) % 2 ^ 64) p.counted ∙ mod-add-mod (n + a) (2 ^ 64) b ∙ ap (λ (x : ℕ). x % 2 ^ 64) (omega arith);
    }

-- the same number of calls, written otherwise
pub called_as : {f f' : Answer} {n n' a : ℕ} (b : ℕ) → a ≡ b → Called f n a f' n' → Called f n b f' n'
called_as {n = n} b e p = record { same = p.same; counted = p.counted ∙ ap (λ (x : ℕ). (n + x) % 2 ^ 64) e }
