-- What Romulus-N owes every user of a mode.
use Rattle.std.specs.Prelude.{◌≡◌, ℕ, List, length}
use Rattle.std.proofs.Common.{◌∙◌, arith}
use Rattle.std.proofs.lemmas.List.{length-map}
use Rattle.byte_blocks.specs.Bytes.{g_byte}
use Rattle.byte_blocks.specs.Counter.{counter}
use Rattle.byte_blocks.specs.Block.{blocks}
use Rattle.cipher.specs.Cipher.{Answer, enciphered}
use Rattle.passes.specs.declared.Direction.TheVariants.{Sealing, Opening}
use Rattle.passes.specs.Passes.{left}
use Rattle.passes.proofs.Back.{length_walked, left_back}
use Rattle.passes.proofs.Found.{found, sealed_again, found_again, length_found}
use Rattle.mode.specs.Mode.{Keeps}
use Rattle.mode.proofs.Judging.{found_one}
use Rattle.romulus_n.specs.ModeN.{started, closed, tag_of, n_scheme}

module _ (f : Answer) (k n ad : List ℕ) where
  -- the state that every tag leads to
  abbrev pub seed : (tag : List ℕ) → List ℕ
  seed tag = started f k n ad

  -- the tag as an opening makes it
  pub tag_found : (text tag : List ℕ) → tag_of f k n ad (found f k n 4 seed (tag_of f k n ad) text tag) ≡ closed f k n (length text) (left f k n 4 Opening (counter 1) (started f k n ad) (blocks text))
  tag_found text tag = rw (left_back f k n 4 Opening (counter 1) (started f k n ad) text, length_found f k n 4 seed (tag_of f k n ad) text tag)

pub n_keeps : Keeps n_scheme
unfolding enciphered
n_keeps =
    record {
      lengths = λ f k n ad message h. (length_walked f k n 4 Sealing (counter 1) (started f k n ad) message, length-map _ g_byte ∙ h _ _);
      one_message = λ f k n ad one two e.
          let seed = seed f k n ad in
          let tag = tag_of f k n ad in
          found_one n_scheme f k n ad (found f k n 4 seed tag) (sealed_again f k n 4 seed tag) (found_again f k n 4 seed tag) one two e;
      seal_costs = λ ad message. omega arith;
      wrong_costs = λ ad message. omega arith;
      wrong_least = λ ad message. omega arith;
    }
