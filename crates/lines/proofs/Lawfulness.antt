-- The laws of an answer.
use Rattle.std.proofs.Common.{◌≡◌, ℕ, ◌≤◌, List, ◌∷◌, length, take, drop, Ok, Err, Result, sym, refl, ap, ◌∙◌, subst, arith}
use Rattle.hex_lines.specs.declared.fault.LineFault.{LineFault}
use Rattle.hex_lines.specs.declared.fault.FrameFault.{FrameFault}
use Rattle.hex_lines.specs.declared.fault.Fault.{Fault}
use Rattle.hex_lines.specs.Digits.{line_check, bytes_of, digits_of, ReadBack}
use Rattle.hex_lines.proofs.Spelling.{bytes_short, length_digits}
use Rattle.cipher.specs.Cipher.{Answer, Sixteen}
use Rattle.skinny.specs.Sixteen.{answer_long}
use Rattle.mode.specs.Mode.{Keeps}
use Rattle.romulus_n.specs.Laws.{n_keeps}
use Rattle.romulus_m.specs.Laws.{m_keeps}
use Rattle.romulus_t.specs.Laws.{t_keeps}
use Rattle.lines.specs.declared.frame.Variant.{Variant}
use Rattle.lines.specs.declared.frame.Variant.TheVariants.{RomulusN, RomulusM, RomulusT}
use Rattle.lines.specs.declared.frame.CipherName.{CipherName}
use Rattle.lines.specs.declared.frame.CipherName.TheVariants.{Skinny, StandIn}
use Rattle.lines.specs.declared.session.Held.{Held}
use Rattle.lines.specs.Frames.{Order, take_key, choose, seal, unseal, digest, order_of}
use Rattle.lines.specs.Services.{cipher_answer, scheme_of, sealed_frame, Opens}
use Rattle.lines.specs.Sessions.{Gives, Tells, frame_order, checked_order, line_order, held_after, written, Spelled, Answers}
use Rattle.lines.specs.Laws.{Refused, AsksToSeal, Lawful}
use Rattle.lines.proofs.Asking.{Asked, asked_frame}
use Rattle.lines.proofs.Reopening.{sealed_asks}

-- every mode keeps what a mode owes
keeps_of : (v : Variant) → Keeps (scheme_of v)
keeps_of RomulusN = n_keeps
keeps_of RomulusM = m_keeps
keeps_of RomulusT = t_keeps

-- every cipher answers with 16 bytes
sixteen_of : (c : CipherName) → Sixteen (cipher_answer c)
sixteen_of (Skinny rounds) = answer_long rounds
sixteen_of StandIn = λ tweakey block. refl

-- ---- a line has one answer

opens_one : (v : Variant) (f : Answer) (key nonce ad text tag : List ℕ) (r r' : Result (List ℕ) Fault) →
    Opens (scheme_of v) f key nonce ad text tag r → Opens (scheme_of v) f key nonce ad text tag r' → r ≡ r'
opens_one v f key nonce ad text tag (Ok m) (Ok m') p q = ap Ok ((keeps_of v).one_message f key nonce ad m m' (p ∙ sym q))
opens_one v f key nonce ad text tag (Ok m) (Err e) p q = absurd (q.1 (m, p))
opens_one v f key nonce ad text tag (Err e) (Ok m) p q = absurd (p.1 (m, q))
opens_one v f key nonce ad text tag (Err e) (Err e') p q = ap Err (p.0 ∙ sym q.0)

gives_one : (f : Answer) (o : Order) (r r' : Result (List ℕ) Fault) → Gives f o r → Gives f o r' → r ≡ r'
gives_one f (take_key key) r r' p q = p ∙ sym q
gives_one f (choose cipher) r r' p q = p ∙ sym q
gives_one f (seal v key nonce ad message) r r' p q = p ∙ sym q
gives_one f (unseal v key nonce ad text tag) r r' p q = opens_one v f key nonce ad text tag r r' p q
gives_one f (digest text) r r' p q = p ∙ sym q

tells_one : (f : Answer) (o : Result Order Fault) (r r' : Result (List ℕ) Fault) → Tells f o r → Tells f o r' → r ≡ r'
tells_one f (Err e) r r' p q = p ∙ sym q
tells_one f (Ok o) r r' p q = gives_one f o r r' p q

pub one_answer : (s : Held) (line text other : List ℕ) → Answers s line text → Answers s line other → other ≡ text
one_answer s line text other a b =
    b.shown ∙ ap written (tells_one (cipher_answer s.cipher) (line_order s line) b.reply a.reply b.told a.told) ∙ sym a.shown

-- ---- a refused line leaves the session as it was

kept : (s : Held) (f : Answer) (o : Result Order Fault) (r : Result (List ℕ) Fault) → Tells f o r → Refused (written r) → held_after s o ≡ s
kept s f (Err e) r told refused = refl
kept s f (Ok (take_key key)) r told refused = absurd (refused (ap (λ x. take 2 (written x)) told))
kept s f (Ok (choose cipher)) r told refused = absurd (refused (ap (λ x. take 2 (written x)) told))
kept s f (Ok (seal v key nonce ad message)) r told refused = refl
kept s f (Ok (unseal v key nonce ad text tag)) r told refused = refl
kept s f (Ok (digest text)) r told refused = refl

pub refused_keeps : (s : Held) (line text : List ℕ) → Answers s line text → Refused text → held_after s (line_order s line) ≡ s
refused_keeps s line text a refused = kept s (cipher_answer s.cipher) (line_order s line) a.reply a.told (λ e. refused (ap (take 2) a.shown ∙ e))

-- ---- what a line seals is opened again

asked_checked : (s : Held) (line : List ℕ) (o : Order) (checked : Result (Unit {0}) LineFault) → (checked ≡ Ok tt → length (bytes_of line) ≤ 4096) →
    checked_order s line checked ≡ Ok o → Asked s.key o
asked_checked s line o (Err e) short p = let z : ◌≡◌ {A = ℕ} 0 1 = cc in absurd (omega arith)
asked_checked s line o (Ok good) short p = asked_frame s.key (bytes_of line) o (short refl) (framed (order_of s.key (bytes_of line)) p)
  where
    framed : (r : Result Order FrameFault) → frame_order r ≡ Ok o → r ≡ Ok o
    framed (Err e) q = let z : ◌≡◌ {A = ℕ} 0 1 = cc in absurd (omega arith)
    framed (Ok x) q = ap Ok (cc)

asked_line : (s : Held) (line : List ℕ) (o : Order) → line_order s line ≡ Ok o → Asked s.key o
asked_line s line o e = asked_checked s line o (line_check line) (bytes_short line) e

-- a line that spells these bytes orders what they ask for
spelled_order : (s : Held) (bytes : List ℕ) (o : Order) → ReadBack bytes → length bytes ≤ 4096 → order_of s.key bytes ≡ Ok o → line_order s (digits_of bytes) ≡ Ok o
spelled_order s bytes o back few asks =
    ap (checked_order s (digits_of bytes)) (back.good few) ∙ ap (λ b. frame_order (order_of s.key b)) back.same ∙ ap frame_order asks

pub opens_again : (s : Held) (line text : List ℕ) → Answers s line text → (message : List ℕ) → AsksToSeal s line message → length text ≤ 8194 →
    (answer : List ℕ) → Answers s (drop 2 text) answer → answer ≡ digits_of (0 ∷ message)
opens_again s line text a message asks short answer b =
    let f = cipher_answer s.cipher in
    let v = asks.variant in
    let key = asks.key in
    let nonce = asks.nonce in
    let ad = asks.ad in
    let pair = (scheme_of v).frame f key nonce ad message in
    let sealed = sealed_frame v nonce ad pair in
    let asked = asked_line s line _ asks.order in
    let reply : a.reply ≡ Ok sealed = subst (λ (o : Result Order Fault). Tells f o a.reply) asks.order a.told in
    let shown : text ≡ digits_of (0 ∷ sealed) = a.shown ∙ ap written reply in
    let back : ReadBack sealed = subst Spelled reply a.spelled in
    let few : length sealed ≤ 4096 = omega (arith, ap length shown, length_digits (0 ∷ sealed)) in
    let tag : length pair.1 ≡ 16 = ((keeps_of v).lengths f key nonce ad message (sixteen_of s.cipher)).1 in
    let again : line_order s (digits_of sealed) ≡ Ok (unseal v key nonce ad pair.0 pair.1) =
    spelled_order s sealed _ back few
    (ap (λ k. order_of k sealed) asked.keyed.0 ∙ sealed_asks nonce ad pair.0 pair.1 asked.keyed.1 tag (omega (arith, asked.small)) v key) in
    let told : Opens (scheme_of v) f key nonce ad pair.0 pair.1 b.reply =
    subst (λ (o : Result Order Fault). Tells f o b.reply) (ap (λ l. line_order s (drop 2 l)) shown ∙ again) b.told in
    b.shown ∙ ap written (opens_one v f key nonce ad pair.0 pair.1 b.reply (Ok message) told refl)

pub lawful : (s : Held) (line text : List ℕ) (s' : Held) → Answers s line text → s' ≡ held_after s (line_order s line) → Lawful s line text s'
lawful s line text s' a e =
    record {
      one_answer = λ other b. one_answer s line text other a b;
      refused_keeps = λ refused. e ∙ refused_keeps s line text a refused;
      opens_again = opens_again s line text a;
    }
