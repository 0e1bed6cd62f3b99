-- What the orders give: a sealed frame, a message, a digest.
use Rattle.std.specs.Prelude.{◌≡◌, ℕ, List, ◌∷◌, ◌++◌, length, Ok, Err, Result}
use Rattle.refusals.specs.declared.Refusal.TheVariants.{WrongFrame}
use Rattle.hex_lines.specs.declared.fault.Fault.{Fault}
use Rattle.hex_lines.specs.declared.fault.Fault.TheVariants.{Mode}
use Rattle.hex_lines.specs.Faults.{two_bytes}
use Rattle.cipher.specs.Cipher.{Answer, stand_in}
use Rattle.skinny.specs.Skinny.{skinny}
use Rattle.skinny.specs.RoundCount.{round_count}
use Rattle.mode.specs.Mode.{Scheme, SealsTo, Right}
use Rattle.romulus_n.specs.ModeN.{n_scheme}
use Rattle.romulus_m.specs.ModeM.{m_scheme}
use Rattle.romulus_t.specs.ModeT.{t_scheme}
use Rattle.lines.specs.declared.frame.Variant.{Variant}
use Rattle.lines.specs.declared.frame.Variant.TheVariants.{RomulusN, RomulusM, RomulusT}
use Rattle.lines.specs.declared.frame.CipherName.{CipherName}
use Rattle.lines.specs.declared.frame.CipherName.TheVariants.{Skinny, StandIn}

-- The answers of a named cipher: Skinny with so many rounds, or the bench stand-in.
abbrev pub cipher_answer : CipherName → Answer
cipher_answer (Skinny rounds) = skinny (round_count rounds)
cipher_answer StandIn = stand_in

-- The mode of a variant: Romulus-N, -M or -T.
abbrev pub scheme_of : Variant → Scheme
scheme_of RomulusN = n_scheme
scheme_of RomulusM = m_scheme
scheme_of RomulusT = t_scheme

-- The letter of a sealed frame: N, M or T.
abbrev pub letter_of : Variant → ℕ
letter_of RomulusN = 0x4e
letter_of RomulusM = 0x4d
letter_of RomulusT = 0x54

-- A sealed frame: letter, nonce, the data's length, data, ciphertext, tag.
-- Without data and message, under a nonce of zeros, Romulus-N's is 0x4e, 16 zeros, two zeros, and the tag.
unfoldable pub sealed_frame : Variant → (nonce ad : List ℕ) → (sealed : List ℕ × List ℕ) → List ℕ
sealed_frame v nonce ad sealed = letter_of v ∷ (nonce ++ (two_bytes (length ad) ++ (ad ++ (sealed.0 ++ sealed.1))))

-- What the opening of a frame gives: the message that seals to it or, where there is none, the refusal, number 13.
abbrev pub Opens : Scheme → Answer → (key nonce ad text tag : List ℕ) → Result (List ℕ) Fault → Type 0
Opens m f key nonce ad text tag (Ok message) = SealsTo m f key nonce ad message text tag
Opens m f key nonce ad text tag (Err fault) = (fault ≡ Mode WrongFrame) × (Right m f key nonce ad text tag → ⊥)
