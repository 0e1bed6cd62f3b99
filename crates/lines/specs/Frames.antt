-- Frames: a letter that names the kind, and a body that fits it.
use Rattle.std.specs.Prelude.{ℕ, ◌+◌, ◌-◌, ◌*◌, Bool, true, cond, List, [], ◌∷◌, length, take, drop, Some, None, Ok, Err, Option, Result, ◌==◌, nat_le, slice_index}
use Rattle.hex_lines.specs.declared.fault.FrameFault.{FrameFault}
use Rattle.hex_lines.specs.declared.fault.FrameFault.TheVariants.{UnknownLetter, FrameLength, NoKey, UnknownCipher}
use Rattle.lines.specs.declared.frame.Variant.{Variant}
use Rattle.lines.specs.declared.frame.Variant.TheVariants.{RomulusN, RomulusM, RomulusT}
use Rattle.lines.specs.declared.frame.CipherName.{CipherName}
use Rattle.lines.specs.declared.frame.CipherName.TheVariants.{Skinny, StandIn}
use Rattle.skinny.specs.declared.Rounds.TheVariants.{Forty, FiftySix}
use Rattle.lines.specs.declared.frame.Kind.{Kind}
use Rattle.lines.specs.declared.frame.Kind.TheVariants.{Key, Cipher, Seal, Open, Hash}

-- The kind that a letter names: K C n m t N M T H. kind_of 0x6e (n) is Some (Seal RomulusN), and kind_of 0x78 (x) is None.
abbrev pub kind_of : ℕ → Option Kind
kind_of letter =
    cond (letter == 0x4b) (Some Key) (cond (letter == 0x43) (Some Cipher)
    (cond (letter == 0x6e) (Some (Seal RomulusN)) (cond (letter == 0x6d) (Some (Seal RomulusM)) (cond (letter == 0x74) (Some (Seal RomulusT))
    (cond (letter == 0x4e) (Some (Open RomulusN)) (cond (letter == 0x4d) (Some (Open RomulusM)) (cond (letter == 0x54) (Some (Open RomulusT))
    (cond (letter == 0x48) (Some Hash) None))))))))

-- The cipher that a byte names: 28 and 38 (hexadecimal, 40 and 56) are the rounds of Skinny, 00 is the bench stand-in.
abbrev pub cipher_of : ℕ → Option CipherName
cipher_of byte = cond (byte == 0x28) (Some (Skinny Forty)) (cond (byte == 0x38) (Some (Skinny FiftySix)) (cond (byte == 0x00) (Some StandIn) None))

-- The body of a frame to be sealed or opened, behind its letter, begins with 16 bytes of nonce.
abbrev pub nonce_of : List ℕ → List ℕ
nonce_of body = take 16 body

-- Two bytes tell the length of the associated data, the highest first.
-- Where they are 1 and 2 it is 258.
abbrev pub ad_length : List ℕ → ℕ
ad_length body = slice_index body 16 * 256 + slice_index body 17

-- The associated data: where its length is 2, bytes 18 and 19 of the body.
abbrev pub ad_of : List ℕ → List ℕ
ad_of body = take (ad_length body) (drop 18 body)

-- What follows the data: the message or, in a sealed frame, the ciphertext and the tag. Where the data has 2 bytes, all from byte 20 on.
abbrev pub text_of : List ℕ → List ℕ
text_of body = drop (18 + ad_length body) body

-- The ciphertext: all but the last 16 bytes; of 20 bytes the first 4.
abbrev pub without_tag : List ℕ → List ℕ
without_tag text = take (length text - 16) text

-- The tag: the last 16 bytes; of 20 bytes those from byte 4 on.
abbrev pub tag_of : List ℕ → List ℕ
tag_of text = drop (length text - 16) text

-- What a frame asks for: to hold a key, to hold a cipher, to seal a message, to open a sealed frame, or to hash a text.
pub data Order : Type 0 where
  take_key : (key : List ℕ) → Order
  choose : CipherName → Order
  seal : Variant → (key nonce ad message : List ℕ) → Order
  unseal : Variant → (key nonce ad text tag : List ℕ) → Order
  digest : (text : List ℕ) → Order

-- Does the length fit the kind? A frame to be sealed has at least 19 bytes, a sealed one at least 35, the letter counted.
-- A key frame fits with 16 bytes behind its letter.
abbrev pub fits : Kind → (body : List ℕ) → Bool
fits Key body = length body == 16
fits Cipher body = length body == 1
fits (Seal v) body = nat_le (18 + ad_length body) (length body)
fits (Open v) body = nat_le (18 + ad_length body + 16) (length body)
fits Hash body = true

-- Is the cipher known? chosen (cipher_of 0x29) is Err UnknownCipher.
abbrev pub chosen : Option CipherName → Result Order FrameFault
chosen None = Err UnknownCipher
chosen (Some c) = Ok (choose c)

-- What a frame that fits asks for. For sealing and opening: is a key held? Without one it is Err NoKey.
abbrev pub ordered : Kind → (held : Option (List ℕ)) → (body : List ℕ) → Result Order FrameFault
ordered Key held body = Ok (take_key body)
ordered Cipher held body = chosen (cipher_of (slice_index body 0))
ordered (Seal v) None body = Err NoKey
ordered (Seal v) (Some key) body = Ok (seal v key (nonce_of body) (ad_of body) (text_of body))
ordered (Open v) None body = Err NoKey
ordered (Open v) (Some key) body = Ok (unseal v key (nonce_of body) (ad_of body) (without_tag (text_of body)) (tag_of (text_of body)))
ordered Hash held body = Ok (digest body)

-- Is the letter known, and does the length fit? A key frame with one byte behind its letter is Err (FrameLength 2).
abbrev pub ordered_if : Option Kind → (held : Option (List ℕ)) → (body : List ℕ) → Result Order FrameFault
ordered_if None held body = Err UnknownLetter
ordered_if (Some kind) held body = cond (fits kind body) (ordered kind held body) (Err (FrameLength (1 + length body)))

-- What a frame asks for of a session that holds this key, if any, or the first question that is answered no:
-- is the letter known, does the length fit, is the cipher known, is a key held?
-- order_of None [] is Err UnknownLetter; the frame 0x43 ∷ 0x28 ∷ [] asks for Skinny Forty, whatever is held.
abbrev pub order_of : (held : Option (List ℕ)) → (frame : List ℕ) → Result Order FrameFault
order_of held [] = Err UnknownLetter
order_of held (letter ∷ body) = ordered_if (kind_of letter) held body
