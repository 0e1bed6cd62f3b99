-- A sealed frame, read again.
use Rattle.std.proofs.Common.{◌≡◌, ℕ, ◌+◌, ◌-◌, ◌/◌, ◌%◌, ◌≤◌, List, [], ◌∷◌, ◌++◌, length, get_or, take, drop, Some, Ok, sym, refl, ap, ◌∙◌, append_assoc, arith, length-append}
use Rattle.std.proofs.lemmas.List.{get_or_at, take_at, drop_at, drop-drop}
use Rattle.std.proofs.lemmas.Bool.{cond-true, le-leb}
use Rattle.lines.specs.declared.frame.Variant.{Variant}
use Rattle.lines.specs.declared.frame.Variant.TheVariants.{RomulusN, RomulusM, RomulusT}
use Rattle.lines.specs.declared.frame.Kind.TheVariants.{Open}
use Rattle.lines.specs.Frames.{kind_of, ad_length, nonce_of, ad_of, text_of, without_tag, tag_of, unseal, ordered_if, order_of}
use Rattle.hex_lines.specs.Faults.{two_bytes}
use Rattle.lines.specs.Services.{letter_of, sealed_frame}

-- the letter of a sealed frame asks for an opening by the same mode
opening_letter : (v : Variant) → kind_of (letter_of v) ≡ Some (Open v)
opening_letter RomulusN = refl
opening_letter RomulusM = refl
opening_letter RomulusT = refl

module _ (nonce ad text tag : List ℕ) (n : length nonce ≡ 16) (t : length tag ≡ 16) (few : length ad ≤ 65535) where
  body : List ℕ
  body = nonce ++ (two_bytes (length ad) ++ (ad ++ (text ++ tag)))

  body_after_lengths : body ≡ (nonce ++ two_bytes (length ad)) ++ (ad ++ (text ++ tag))
  unfolding body
  body_after_lengths = sym (append_assoc nonce (two_bytes (length ad)) (ad ++ (text ++ tag)))

  long_head : length (nonce ++ two_bytes (length ad)) ≡ 18
  long_head = length-append nonce (two_bytes (length ad)) ∙ omega arith

  length_told : ad_length body ≡ length ad
  unfolding body
  length_told =
      let high = get_or_at nonce (length ad / 256 % 256) ((length ad % 256) ∷ (ad ++ (text ++ tag))) 0 16 n in
      let first : length (nonce ++ (length ad / 256 % 256) ∷ []) ≡ 17 = length-append nonce _ ∙ omega arith in
      let split = sym (append_assoc nonce ((length ad / 256 % 256) ∷ []) ((length ad % 256) ∷ (ad ++ (text ++ tag)))) in
      let low = ap (λ l. get_or l 17 0) split ∙ get_or_at (nonce ++ (length ad / 256 % 256) ∷ []) (length ad % 256) (ad ++ (text ++ tag)) 0 17 first in
      omega (arith, high, low)

  behind_head : drop 18 body ≡ ad ++ (text ++ tag)
  behind_head = ap (drop 18) body_after_lengths ∙ drop_at (nonce ++ two_bytes (length ad)) (ad ++ (text ++ tag)) 18 long_head

  nonce_told : nonce_of body ≡ nonce
  unfolding body
  nonce_told = take_at nonce (two_bytes (length ad) ++ (ad ++ (text ++ tag))) 16 n

  ad_told : ad_of body ≡ ad
  ad_told = ap (λ k. take k (drop 18 body)) length_told ∙ ap (take (length ad)) behind_head ∙ take_at ad (text ++ tag) (length ad) refl

  text_told : text_of body ≡ text ++ tag
  text_told =
      ap (λ k. drop (18 + k) body) length_told ∙ sym (drop-drop (length ad) 18 body) ∙ ap (drop (length ad)) behind_head ∙ drop_at ad (text ++ tag) (length ad) refl

  text_alone : without_tag (text ++ tag) ≡ text
  text_alone = take_at text tag (length (text ++ tag) - 16) (omega (arith, length-append text tag))

  tag_alone : tag_of (text ++ tag) ≡ tag
  tag_alone = drop_at text tag (length (text ++ tag) - 16) (omega (arith, length-append text tag))

  long_body : length body ≡ 18 + length ad + length text + 16
  long_body =
      ap length body_after_lengths ∙ length-append (nonce ++ two_bytes (length ad)) (ad ++ (text ++ tag))
      ∙ omega (arith, long_head, length-append ad (text ++ tag), length-append text tag)

  pub sealed_asks : (v : Variant) (key : List ℕ) → order_of (Some key) (sealed_frame v nonce ad (text, tag)) ≡ Ok (unseal v key nonce ad text tag)
  unfolding sealed_frame body
  sealed_asks v key =
      ap (λ k. ordered_if k (Some key) body) (opening_letter v)
      ∙ cond-true _ _ _ (le-leb (18 + ad_length body + 16) (length body) (omega (arith, long_body, length_told)))
      ∙ rw (nonce_told, ad_told, text_told, text_alone, tag_alone)
