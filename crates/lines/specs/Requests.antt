-- How the code holds the parts of a frame, what it asks for, and the reply. Inner functions speak of it; no public contract does.
use Rattle.std.specs.Prelude.{◌≡◌, ℕ, ◌+◌, ◌<◌, ◌≤◌, List, length, Some, None, Ok, Err, Option, Result}
use Rattle.refusals.specs.declared.Refusal.{Refusal}
use Rattle.hex_lines.specs.declared.fault.FrameFault.{FrameFault}
use Rattle.hex_lines.specs.declared.fault.Fault.{Fault}
use Rattle.hex_lines.specs.declared.fault.Fault.TheVariants.{Mode}
use Rattle.lines.specs.declared.frame.Parts.{Parts}
use Rattle.lines.specs.declared.frame.Sealed.{Sealed}
use Rattle.lines.specs.declared.frame.Request.{Request}
use Rattle.lines.specs.declared.frame.Request.TheVariants as code
use Rattle.lines.specs.declared.session.Held.{Held}
use Rattle.lines.specs.Services.{cipher_answer}
use Rattle.lines.specs.Sessions.{Tells, line_order, held_after}
use Rattle.lines.specs.Frames.{ad_length, nonce_of, ad_of, text_of, without_tag, tag_of, Order, take_key, choose, seal, unseal, digest}

-- A body (a frame without its letter), cut into parts.
pub record Parted (body : List ℕ) (p : Parts) : Type 0 where
  pub fits : 18 + ad_length body ≤ length body
  pub nonce : p.nonce ≡ nonce_of body
  pub ad : p.ad.now ≡ ad_of body
  pub text : p.text.now ≡ text_of body

-- The parts of a body, or none where it is too short: 17 bytes are, since nonce and length have 18.
abbrev pub Cut : (body : List ℕ) → Option Parts → Type 0
Cut body (Some p) = Parted body p
Cut body None = length body < 18 + ad_length body

-- The body of a sealed frame, cut into parts, the tag among them.
pub record SealedParted (body : List ℕ) (s : Sealed) : Type 0 where
  pub fits : 18 + ad_length body + 16 ≤ length body
  pub nonce : s.parts.nonce ≡ nonce_of body
  pub ad : s.parts.ad.now ≡ ad_of body
  pub text : s.parts.text.now ≡ without_tag (text_of body)
  pub tag : s.tag ≡ tag_of (text_of body)

-- The parts of a sealed frame's body, or none where it is too short: 33 bytes are, since nonce, length and tag have 34.
abbrev pub SealedCut : (body : List ℕ) → Option Sealed → Type 0
SealedCut body (Some s) = SealedParted body s
SealedCut body None = length body < 18 + ad_length body + 16

-- A request of the code as the order that it is: its slices as the bytes in them.
abbrev pub meaning : Request → Order
meaning (code.TakeKey key) = take_key key
meaning (code.Choose cipher) = choose cipher
meaning (code.Seal v key p) = seal v key p.nonce p.ad.now p.text.now
meaning (code.Open v key s) = unseal v key s.parts.nonce s.parts.ad.now s.parts.text.now s.tag
meaning (code.Hash text) = digest text.now

-- A frame read as what it asks for, or refused with the fault that it has.
abbrev pub ReadAs : Result Order FrameFault → Result Request FrameFault → Type 0
ReadAs asked (Ok request) = asked ≡ Ok (meaning request)
ReadAs asked (Err fault) = asked ≡ Err fault

-- An order that a frame of at most 4,096 bytes can ask for. Behind the letter, the nonce and the length 4,077 bytes are left for data and message.
abbrev pub Small : Order → Type 0
Small (take_key key) = Unit {0}
Small (choose cipher) = Unit {0}
Small (seal v key nonce ad message) = length ad + length message ≤ 4077
Small (unseal v key nonce ad text tag) = length text ≤ 4096
Small (digest text) = Unit {0}

-- What a mode gives, as the reply to a line: the bytes, or the refusal told as the mode layer's.
abbrev pub mode_reply : Result (List ℕ) Refusal → Result (List ℕ) Fault
mode_reply (Ok bytes) = Ok bytes
mode_reply (Err refusal) = Err (Mode refusal)

-- A line that the code replied to: the reply, and what is then held.
pub record Replied (s : Held) (line : List ℕ) (r : Result (List ℕ) Fault) (s' : Held) : Type 0 where
  pub told : Tells (cipher_answer s.cipher) (line_order s line) r
  pub held : s' ≡ held_after s (line_order s line)
