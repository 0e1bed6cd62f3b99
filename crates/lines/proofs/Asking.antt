-- What is known of an order from the frame that asked for it.
use Rattle.std.proofs.Common.{◌≡◌, ℕ, suc, ◌+◌, ◌-◌, ◌≤◌, Bool, true, false, cond, List, [], ◌∷◌, length, drop, Some, None, Ok, Err, Option, Result, refl, subst, arith, length-drop, length-take}
use Rattle.std.proofs.lemmas.List.{length-take-le}
use Rattle.std.proofs.lemmas.Bool.{leb-true}
use Rattle.hex_lines.specs.declared.fault.FrameFault.{FrameFault}
use Rattle.lines.specs.declared.frame.CipherName.{CipherName}
use Rattle.lines.specs.declared.frame.Kind.{Kind}
use Rattle.lines.specs.declared.frame.Kind.TheVariants.{Key, Cipher, Seal, Open, Hash}
use Rattle.lines.specs.Frames.{ad_length, text_of, kind_of, Order, take_key, choose, seal, unseal, digest, fits, chosen, ordered, ordered_if, order_of}
use Rattle.lines.specs.Requests.{Small}

never : {e : FrameFault} {o : Order} → ◌≡◌ {A = Result Order FrameFault} (Err e) (Ok o) → ⊥
never p = let z : ◌≡◌ {A = ℕ} 0 1 = cc in omega arith

same : {a o : Order} → ◌≡◌ {A = Result Order FrameFault} (Ok a) (Ok o) → a ≡ o
same p = cc

-- what holds of the orders of every body that fits holds of the order of a frame
module _ (P : Order → Type 0) (held : Option (List ℕ)) (o : Order) where
  from_body : (b : Bool) (asked : Result Order FrameFault) (misfit : FrameFault) → (b ≡ true → asked ≡ Ok o → P o) → cond b asked (Err misfit) ≡ Ok o → P o
  from_body true asked misfit h e = h refl e
  from_body false asked misfit h e = absurd (never e)

  from_kind : (known : Option Kind) (body : List ℕ) → ((kind : Kind) → fits kind body ≡ true → ordered kind held body ≡ Ok o → P o) → ordered_if known held body ≡ Ok o → P o
  from_kind None body h e = absurd (never e)
  from_kind (Some kind) body h e = from_body (fits kind body) (ordered kind held body) _ (h kind) e

  pub from_frame : (frame : List ℕ) → ((kind : Kind) (body : List ℕ) → length frame ≡ suc (length body) → fits kind body ≡ true → ordered kind held body ≡ Ok o → P o) → order_of held frame ≡ Ok o → P o
  from_frame [] h e = absurd (never e)
  from_frame (letter ∷ body) h e = from_kind (kind_of letter) body (λ kind. h kind body refl) e

-- a seal is asked for under the key held, and a nonce of 16 bytes
abbrev pub Keyed : Option (List ℕ) → Order → Type 0
Keyed held (take_key key) = Unit {0}
Keyed held (choose cipher) = Unit {0}
Keyed held (seal v key nonce ad message) = (held ≡ Some key) × (length nonce ≡ 16)
Keyed held (unseal v key nonce ad text tag) = Unit {0}
Keyed held (digest text) = Unit {0}

-- and no order is longer than its frame
pub record Asked (held : Option (List ℕ)) (o : Order) : Type 0 where
  pub small : Small o
  pub keyed : Keyed held o

asked_cipher : (held : Option (List ℕ)) (name : Option CipherName) (o : Order) → chosen name ≡ Ok o → Asked held o
asked_cipher held None o e = absurd (never e)
asked_cipher held (Some c) o e = subst (Asked held) (same e) (record { small = tt; keyed = tt })

asked_kind : (held : Option (List ℕ)) (o : Order) (kind : Kind) (body : List ℕ) → length body ≤ 4095 → fits kind body ≡ true → ordered kind held body ≡ Ok o → Asked held o
asked_kind held o Key body h f e = subst (Asked held) (same e) (record { small = tt; keyed = tt })
asked_kind held o Cipher body h f e = asked_cipher held _ o e
asked_kind None o (Seal v) body h f e = absurd (never e)
asked_kind (Some key) o (Seal v) body h f e =
    let fit = leb-true _ _ f in
    subst (Asked (Some key)) (same e)
    (record {
      small = omega (arith, length-take (ad_length body) (drop 18 body), length-drop 18 body, length-drop (18 + ad_length body) body);
      keyed = (refl, length-take-le 16 body (omega arith));
    })
asked_kind None o (Open v) body h f e = absurd (never e)
asked_kind (Some key) o (Open v) body h f e =
    subst (Asked (Some key)) (same e)
    (record { small = omega (arith, length-take (length (text_of body) - 16) (text_of body), length-drop (18 + ad_length body) body); keyed = tt })
asked_kind held o Hash body h f e = subst (Asked held) (same e) (record { small = tt; keyed = tt })

pub asked_frame : (held : Option (List ℕ)) (frame : List ℕ) (o : Order) → length frame ≤ 4096 → order_of held frame ≡ Ok o → Asked held o
asked_frame held frame o h e = from_frame (Asked held) held o frame (λ kind body long. asked_kind held o kind body (omega arith)) e
