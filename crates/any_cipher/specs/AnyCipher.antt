-- A cipher chosen at run time answers as the one that it holds.
use Rattle.cipher.specs.Cipher.{Answer, stand_in}
use Rattle.skinny.specs.Skinny.{skinny}
use Rattle.skinny.specs.RoundCount.{round_count}
use Rattle.any_cipher.specs.declared.AnyCipher.{AnyCipher}
use Rattle.any_cipher.specs.declared.AnyCipher.TheVariants.{Skinny, StandIn}

-- What it answers: Skinny with its 40 or 56 rounds, or the bench stand-in.
abbrev pub any_answer : AnyCipher → Answer
any_answer (Skinny s) = skinny (round_count s.rounds)
any_answer (StandIn _) = stand_in
