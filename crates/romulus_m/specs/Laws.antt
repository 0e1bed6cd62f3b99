-- What Romulus-M owes every user of a mode.
use Rattle.std.proofs.Common.{◌∙◌, arith}
use Rattle.std.proofs.lemmas.List.{length-map}
use Rattle.byte_blocks.specs.Bytes.{g_byte}
use Rattle.byte_blocks.specs.Counter.{counter}
use Rattle.cipher.specs.Cipher.{enciphered}
use Rattle.passes.specs.declared.Direction.TheVariants.{Sealing}
use Rattle.passes.proofs.Back.{length_walked}
use Rattle.passes.proofs.Found.{found, sealed_again, found_again}
use Rattle.mode.specs.Mode.{Keeps}
use Rattle.mode.proofs.Judging.{found_one}
use Rattle.romulus_m.specs.ModeM.{tag_of, seeded, m_scheme}

pub m_keeps : Keeps m_scheme
unfolding enciphered
m_keeps =
    record {
      lengths = λ f k n ad message h. (length_walked f k n 36 Sealing (counter 1) (seeded f k n _) message, length-map _ g_byte ∙ h _ _);
      one_message = λ f k n ad one two e.
          let seed = seeded f k n in
          let tag = tag_of f k n ad in
          found_one m_scheme f k n ad (found f k n 36 seed tag) (sealed_again f k n 36 seed tag) (found_again f k n 36 seed tag) one two e;
      seal_costs = λ ad message. omega arith;
      wrong_costs = λ ad message. omega arith;
      wrong_least = λ ad message. omega arith;
    }
