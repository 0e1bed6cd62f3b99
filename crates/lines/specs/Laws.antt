-- What holds of every answer, and of every run of a session.
use Rattle.std.specs.Prelude.{◌≡◌, ℕ, ◌≤◌, List, [], ◌∷◌, ◌++◌, map, length, take, drop, None, Ok}
use Rattle.hex_lines.specs.Digits.{digits_of}
use Rattle.lines.specs.declared.frame.CipherName.TheVariants.{Skinny}
use Rattle.skinny.specs.declared.Rounds.TheVariants.{Forty}
use Rattle.lines.specs.declared.frame.Variant.{Variant}
use Rattle.lines.specs.declared.session.Held.{Held}
use Rattle.lines.specs.Frames.{seal}
use Rattle.lines.specs.Sessions.{line_order, held_after, Answers}

-- At first a session holds no key, and Skinny with 40 rounds.
abbrev pub at_first : Held
at_first = record { key = None; cipher = Skinny Forty }

-- A refusal is an answer that does not begin with 00: 104c0001 is one.
abbrev pub Refused : (text : List ℕ) → Type 0
Refused text = take 2 text ≡ 0x30 ∷ 0x30 ∷ [] → ⊥

-- A line that asks a session to seal this message, by some mode under some nonce and data. 6e, 16 bytes of zeros and 0000 asks, where a key
-- is held, to seal the empty message.
pub record AsksToSeal (s : Held) (line message : List ℕ) : Type 0 where
  pub variant : Variant
  pub key : List ℕ
  pub nonce : List ℕ
  pub ad : List ℕ
  pub order : line_order s line ≡ Ok (seal variant key nonce ad message)

-- What holds of each answer to a line, whatever the session holds before (s) and after (s').
pub record Lawful (s : Held) (line text : List ℕ) (s' : Held) : Type 0 where
  -- a line has one answer
  pub one_answer : (other : List ℕ) → Answers s line other → other ≡ text
  -- a refused line leaves the session as it was
  pub refused_keeps : Refused text → s' ≡ s
  -- what a line seals is opened again: the answer behind its 00, given as a line to a session that holds the same, is answered with 00 and the message,
  -- unless it is too long for a line
  pub opens_again : (message : List ℕ) → AsksToSeal s line message → length text ≤ 8194 →
      (answer : List ℕ) → Answers s (drop 2 text) answer → answer ≡ digits_of (0 ∷ message)

-- A line and its answer.
abbrev pub Exchange : Type 0
Exchange = List ℕ × List ℕ

-- The lines alone, without their answers.
abbrev pub lines_of : List Exchange → List (List ℕ)
lines_of es = map (λ e. e.0) es

-- A run: each line is answered one after the other, from what the session holds before them (s) to what it holds after them (t).
abbrev pub Run : Held → List Exchange → Held → Type 0
Run s [] t = t ≡ s
Run s (e ∷ es) t = Answers s e.0 e.1 × Run (held_after s (line_order s e.0)) es t

-- What holds of all runs of a session from what it holds now. Struck out of 4338, 4g, 4328, the refused 4g leaves a run of 4338 and 4328.
pub record RunLaws (s : Held) : Type 0 where
  -- the lines settle every answer
  pub settled : (es es' : List Exchange) (t t' : Held) → Run s es t → Run s es' t' → lines_of es ≡ lines_of es' → es ≡ es'
  -- a refused line can be struck out: no other answer changes, and the same is held in the end
  pub struck_out : (before later : List Exchange) (line text : List ℕ) (t : Held) → Refused text → Run s (before ++ (line, text) ∷ later) t → Run s (before ++ later) t
  -- so no later answer depends on the bytes of a refused line, a key line for one
  pub forgotten : (before later later' : List Exchange) (line line' text text' : List ℕ) (t t' : Held) → Refused text → Refused text' →
      Run s (before ++ (line, text) ∷ later) t → Run s (before ++ (line', text') ∷ later') t' → lines_of later ≡ lines_of later' → later ≡ later'
