-- A session: what an order gives, and what is held after it. What a session holds from line to line is a key, or none yet, and a cipher.
use Rattle.std.specs.Prelude.{◌≡◌, ℕ, List, [], ◌∷◌, Some, Ok, Err, Result}
use Rattle.hex_lines.specs.declared.fault.LineFault.{LineFault}
use Rattle.hex_lines.specs.declared.fault.FrameFault.{FrameFault}
use Rattle.hex_lines.specs.declared.fault.Fault.{Fault}
use Rattle.hex_lines.specs.declared.fault.Fault.TheVariants.{Line, Frame}
use Rattle.hex_lines.specs.Digits.{line_check, bytes_of, digits_of, ReadBack}
use Rattle.hex_lines.specs.Faults.{report_of}
use Rattle.cipher.specs.Cipher.{Answer}
use Rattle.romulus_h.specs.Hash.{digest_of}
use Rattle.lines.specs.declared.session.Held.{Held}
use Rattle.lines.specs.Frames.{Order, take_key, choose, seal, unseal, digest, order_of}
use Rattle.lines.specs.KeyLines.{line_after}
use Rattle.lines.specs.Services.{cipher_answer, scheme_of, sealed_frame, Opens}

-- What an order gives under a cipher's answers: nothing for a key and a cipher; the sealed frame, the message of a right frame or the refusal
-- of a wrong one, or the digest.
abbrev pub Gives : Answer → Order → Result (List ℕ) Fault → Type 0
Gives f (take_key key) r = r ≡ Ok []
Gives f (choose cipher) r = r ≡ Ok []
Gives f (seal v key nonce ad message) r = r ≡ Ok (sealed_frame v nonce ad ((scheme_of v).frame f key nonce ad message))
Gives f (unseal v key nonce ad text tag) r = Opens (scheme_of v) f key nonce ad text tag r
Gives f (digest text) r = r ≡ Ok (digest_of f text)

-- What a session holds after an order: another key or another cipher, else the same. After choose (Skinny FiftySix) the key is as before.
abbrev pub after : Held → Order → Held
after s (take_key key) = record { key = Some key; cipher = s.cipher }
after s (choose cipher) = record { key = s.key; cipher = cipher }
after s (seal v key nonce ad message) = s
after s (unseal v key nonce ad text tag) = s
after s (digest text) = s

-- What a frame orders, or its fault, told as the frame layer's.
abbrev pub frame_order : Result Order FrameFault → Result Order Fault
frame_order (Err fault) = Err (Frame fault)
frame_order (Ok order) = Ok order

-- What a line orders once it is checked: the order of the frame that it spells, or the line's fault.
-- A line that is not good orders nothing, and its fault is told as the line layer's.
abbrev pub checked_order : Held → (line : List ℕ) → Result (Unit {0}) LineFault → Result Order Fault
checked_order s line (Err fault) = Err (Line fault)
checked_order s line (Ok good) = frame_order (order_of s.key (bytes_of line))

-- What a line orders of a session, or the first question that is answered no. 4328 orders choose (Skinny Forty); 4g is Err (Line (BadDigit 1)).
abbrev pub line_order : Held → (line : List ℕ) → Result Order Fault
line_order s line = checked_order s line (line_check line)

-- The reply to a line: its fault, or what its order gives. To 4328 it is Ok [].
abbrev pub Tells : Answer → Result Order Fault → Result (List ℕ) Fault → Type 0
Tells f (Err fault) r = r ≡ Err fault
Tells f (Ok order) r = Gives f order r

-- What a session holds after a line. A refused line leaves it as it was.
-- After 4338 it holds Skinny FiftySix.
abbrev pub held_after : Held → Result Order Fault → Held
held_after s (Err fault) = s
held_after s (Ok order) = after s order

-- An answer line: 00 and the result's bytes in small digits, or the report of the fault. written (Ok []) is 00;
-- written (Err (Line (BadDigit 1))) is 104c0001.
abbrev pub written : Result (List ℕ) Fault → List ℕ
written (Ok bytes) = digits_of (0 ∷ bytes)
written (Err fault) = digits_of (report_of fault)

-- The digits of a result spell its bytes: what is told can be read back.
abbrev pub Spelled : Result (List ℕ) Fault → Type 0
Spelled (Ok bytes) = ReadBack bytes
Spelled (Err fault) = Unit {0}

-- This text is the answer to a line, of a session that holds s: a reply fits the line, and the text is that reply written.
-- The line 4g is answered 104c0001.
pub record Answers (s : Held) (line text : List ℕ) : Type 0 where
  pub reply : Result (List ℕ) Fault
  pub told : Tells (cipher_answer s.cipher) (line_order s line) reply
  pub spelled : Spelled reply
  pub shown : text ≡ written reply

-- A line that was answered with a text; what the session then holds, and what the line then is: a key line is zeros.
pub record Answered (s : Held) (line text : List ℕ) (s' : Held) (line' : List ℕ) : Type 0 where
  pub answers : Answers s line text
  pub held : s' ≡ held_after s (line_order s line)
  pub cleared : line' ≡ line_after line
