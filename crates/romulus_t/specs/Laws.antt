-- What Romulus-T owes every user of a mode.
use Rattle.std.specs.Prelude.{◌≡◌, ℕ, List, length}
use Rattle.std.proofs.Common.{sym, ap, ◌∙◌, arith}
use Rattle.cipher.specs.Cipher.{Answer, Sixteen, enciphered}
use Rattle.mode.specs.Mode.{Keeps}
use Rattle.romulus_t.specs.ModeT.{ciphertext_of, tag_of, t_scheme}
use Rattle.romulus_t.specs.Streams.{covered_twice, length_covered}

length_tag : (f : Answer) → Sixteen f → (k n ad text : List ℕ) → length (tag_of f k n ad text) ≡ 16
unfolding tag_of enciphered
length_tag f h k n ad text = h _ _

one_message : (f : Answer) (k n one two : List ℕ) → ciphertext_of f k n one ≡ ciphertext_of f k n two → one ≡ two
one_message f k n one two e = sym (covered_twice f k n one) ∙ ap (ciphertext_of f k n) e ∙ covered_twice f k n two

pub t_keeps : Keeps t_scheme
t_keeps =
    record {
      lengths = λ f k n ad message h. (length_covered f k n message, length_tag f h k n ad (ciphertext_of f k n message));
      one_message = λ f k n ad one two e. one_message f k n one two (ap (λ (p : List ℕ × List ℕ). p.0) e);
      seal_costs = λ ad message. omega arith;
      wrong_costs = λ ad message. omega arith;
      wrong_least = λ ad message. omega arith;
    }
