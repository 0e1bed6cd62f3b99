-- Runs of a kept post are runs of the library's.
use Rattle.std.proofs.Common.{◌≡◌, ℕ, zero, suc, ◌%◌, ◌<◌, cond, eqb, List, [], ◌∷◌, get_or, None, Option, sym, refl, ap, ◌∙◌, subst, arith}
use Rattle.std.specs.List.{AllByRecursion}
use Rattle.std.proofs.lemmas.Bool.{cond_both}
use Rattle.refusals.specs.declared.Refusal.{Refusal}
use Rattle.refusals.specs.Refusals.{first_no}
use Rattle.mode.specs.Mode.{Scheme, Keeps}
use Rattle.romulus_n.specs.ModeN.{n_scheme}
use Rattle.romulus_m.specs.ModeM.{m_scheme}
use Rattle.romulus_t.specs.ModeT.{t_scheme}
use Rattle.romulus_n.specs.Laws.{n_keeps}
use Rattle.romulus_m.specs.Laws.{m_keeps}
use Rattle.romulus_t.specs.Laws.{t_keeps}
use Rattle.nonces.specs.Nonces.{NoncesProper}
use Rattle.nonces.specs.Sources.{big_endian}
use Rattle.nonces.specs.Proper.{counted_proper}
use Rattle.promise.specs.Calls.{Event, event}
use Rattle.promise.specs.Answers.{Standing, fresh, Run}
use Rattle.promise.proofs.Kept.{promises}
use Rattle.promise.proofs.Outside.{outside}
use Rattle.romulus_c.specs.declared.kept.RomulusPost.{RomulusPost}
use Rattle.romulus_c.specs.Kept.{scheme_of, standing_of, kept_questions, making_of, Made, Carried, CallTold}
use Rattle.romulus_c.specs.Promised.{KeptRun, EveryKeptRun, EveryTwoKeptRuns}
use Rattle.romulus_c.proofs.Carrying.{sound}

-- every mode keeps what a mode owes
scheme_keeps : (mode : ℕ) → Keeps (scheme_of mode)
scheme_keeps mode =
    cond_both (eqb mode 78) n_scheme (cond (eqb mode 77) m_scheme t_scheme) (λ m. Keeps m) (λ _. n_keeps)
    (λ _. cond_both (eqb mode 77) m_scheme t_scheme (λ m. Keeps m) (λ _. m_keeps) (λ _. t_keeps))

kept_run : (m : Scheme) (p : RomulusPost) (es : List Event) (p' : RomulusPost) → scheme_of p.mode ≡ m → first_no (kept_questions p) ≡ None → KeptRun p es p' → Run m (standing_of p) es (standing_of p')
kept_run m p [] p' e s r = ap standing_of r
kept_run m p (event c a ∷ es) p' e s (q, k, r) =
    let h : Carried (scheme_of p.mode) p c a q = subst (λ (o : Option Refusal). CallTold p c o a q) s k in
    let i : Carried m p c a q = subst (λ (z : Scheme). Carried z p c a q) e h in
    (standing_of q, i.stepped, kept_run m q es p' (ap scheme_of i.mode_stays ∙ e) i.sound r)

-- from the making on
made_run : (made p : RomulusPost) (es : List Event) (p' : RomulusPost) → Made made p → KeptRun p es p' → Run (scheme_of made.mode) (fresh (making_of made)) es (standing_of p')
made_run made p es p' h r =
    let e : scheme_of p.mode ≡ scheme_of made.mode = ap (λ (z : RomulusPost). scheme_of z.mode) h.is in
    subst (λ (s : Standing). Run (scheme_of made.mode) s es (standing_of p')) h.stands (kept_run (scheme_of made.mode) p es p' e h.sound r)

low : (n : ℕ) → n % 256 < 256
low n = omega arith

byte_at : (xs : List ℕ) (i : ℕ) → AllByRecursion (λ b. b < 256) xs → get_or xs i 0 < 256
byte_at [] i h = omega arith
byte_at (x ∷ xs) zero h = h.0
byte_at (x ∷ xs) (suc i) h = byte_at xs i h.1

made_proper : (made p : RomulusPost) → Made made p → NoncesProper (making_of made).nonces
made_proper made p h =
    let s = sound made (subst (λ (z : RomulusPost). first_no (kept_questions z) ≡ None) h.is h.sound) in
    counted_proper (big_endian made.prefix) made.count made.amount refl
    (λ i. byte_at (big_endian made.prefix) i (low _, (low _, (low _, (low _, (low _, (low _, (low _, (low _, tt))))))))) (omega arith)

pub every_kept_run : EveryKeptRun
every_kept_run made p es p' h r =
    promises (scheme_of made.mode) (scheme_keeps made.mode) (making_of made) (made_proper made p h) es (standing_of p') (made_run made p es p' h r)

pub every_two_kept_runs : EveryTwoKeptRuns
every_two_kept_runs made p es p' h r made₂ q ds q' k s e =
    outside (scheme_of made.mode) (making_of made) (making_of made₂) es ds (standing_of p') (standing_of q') (made_run made p es p' h r)
    (subst (λ (n : ℕ). Run (scheme_of n) (fresh (making_of made₂)) ds (standing_of q')) (sym e) (made_run made₂ q ds q' k s))
