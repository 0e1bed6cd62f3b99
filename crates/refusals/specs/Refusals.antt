-- The questions that a call asks before it works, and the numbers of its refusals.
use Rattle.std.specs.Prelude.{ℕ, Bool, true, false, List, [], ◌∷◌, Some, None, Ok, Err, Option, Result}
use Rattle.refusals.specs.declared.Refusal.{Refusal}
use Rattle.refusals.specs.declared.Refusal.TheVariants.{CountRange, SheetSize, SheetRepeats, KeyLength, AllowanceSize, DataLength, TextLength, OutputLength, TagLength, NonceLength, AllowanceSpent, NoNonce, WrongFrame, HashLength, DigestLength}

-- The number of each refusal, as it is told to the caller.
abbrev pub number_of : Refusal → ℕ
number_of CountRange = 1
number_of SheetSize = 2
number_of SheetRepeats = 3
number_of KeyLength = 4
number_of AllowanceSize = 5
number_of DataLength = 6
number_of TextLength = 7
number_of OutputLength = 8
number_of TagLength = 9
number_of NonceLength = 10
number_of AllowanceSpent = 11
number_of NoNonce = 12
number_of WrongFrame = 13
number_of HashLength = 14
number_of DigestLength = 15

-- What a call answers as its number: 0 where it was taken. answer_number (Err KeyLength) is 4.
abbrev pub answer_number : {T : Type 0} → Result T Refusal → ℕ
answer_number (Ok given) = 0
answer_number (Err r) = number_of r

-- A question: the refusal where it is answered no, and whether it is answered yes.
-- ask KeyLength false is asked of a key that has not 16 bytes.
pub data Question : Type 0 where
  ask : Refusal → Bool → Question

-- The refusal of the first question that is answered no, if any is.
-- first_no (ask KeyLength true ∷ ask DataLength false ∷ ask TextLength false ∷ []) is Some DataLength.
abbrev pub first_no : List Question → Option Refusal
first_no [] = None
first_no (ask r true ∷ qs) = first_no qs
first_no (ask r false ∷ qs) = Some r

-- What a call that asks answers by the first no: Ok where there is none, else Err with the refusal.
-- after_asking (Some KeyLength) is Err KeyLength.
abbrev pub after_asking : Option Refusal → Result (Unit {0}) Refusal
after_asking None = Ok tt
after_asking (Some r) = Err r
