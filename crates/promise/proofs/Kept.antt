-- Every run keeps the promises of one post.
use Rattle.std.proofs.Common.{◌≡◌, ℕ, ◌+◌, ◌-◌, ◌*◌, ◌<◌, ◌≤◌, min, Bool, true, false, cond, eqb, leb, ◌≢◌, List, [], ◌∷◌, ◌++◌, map, length, get_or, take, drop, replicate, Some, None, Option, sym, refl, ap, ◌∙◌, subst, zero-add, one-add, arith}
use Rattle.std.specs.List.{AllByRecursion}
use Rattle.std.specs.Int.Digits.{number_from_digits_after}
use Rattle.std.proofs.ByRecursion.{All-take, All-drop, All-get_or}
use Rattle.std.proofs.lemmas.List.{length-take, length-drop, length-map, get_or-map, get_or-take, take-append-drop}
use Rattle.std.proofs.lemmas.Bool.{eqb-true, false≢true}
use Rattle.refusals.specs.declared.Refusal.{Refusal}
use Rattle.refusals.specs.declared.Refusal.TheVariants.{DataLength, TextLength, OutputLength, TagLength, NonceLength, AllowanceSpent, NoNonce, WrongFrame}
use Rattle.refusals.specs.Refusals.{Question, ask, first_no, number_of}
use Rattle.cipher.specs.Cipher.{Called}
use Rattle.mode.specs.Mode.{Scheme, Keeps, SealsTo, Right, Opened, zeros}
use Rattle.nonces.specs.Nonces.{NoRepeats, Nonce, NoncesProper, words}
use Rattle.promise.specs.Calls.{Call, Seal, Open, Read, places, Reply, Gave, Told, number_told, nonce_told, cost_told, Event, event, taken_seal, tick, how_many, costs_told, nonces_told}
use Rattle.promise.specs.Answers.{Making, Standing, standing, fresh, price, some_left, next, questions, refusal_reply, seal_reply, verdict_reply, OpenFits, Fits, Run}
use Rattle.promise.specs.Promises.{Came, Allowed, nonces_to_come, NeverTwice, EverySealThatCanBeIsTaken, OpensExactlyTheRightFrames, NumbersCostsReadings, Promises}
use Rattle.promise.proofs.Questions.{number_not_0, some_not_none, seal_can_be, seal_unrefused, open_sizes, open_unrefused, open_out}
use Rattle.promise.proofs.Runs.{Ran, standing_push, costs_push, ran_each, run_ran, run_stands}

-- ---- what every fitting answer says

-- a question with another number than that of the refusal was answered yes
passed : (n : ℕ) (q : Refusal) (b : Bool) (qs : List Question) (r : Refusal) → number_of r ≡ n → number_of q ≢ n → first_no (ask q b ∷ qs) ≡ Some r → first_no qs ≡ Some r
passed n q true qs r e h f = f
passed n q false qs r e h f = let k : q ≡ r = cc in absurd (h (ap number_of k ∙ e))

none_left : (ns : List (List ℕ)) (r : Refusal) → first_no (ask NoNonce (some_left ns) ∷ []) ≡ Some r → ns ≡ []
none_left [] r e = refl
none_left (n ∷ ns) r e = absurd (some_not_none r (sym e))

seal_12 : (m : Scheme) (s : Standing) (ad message out tag : List ℕ) (r : Refusal) → first_no (questions m s (Seal ad message out tag)) ≡ Some r → number_of r ≡ 12 → s.nonces ≡ []
seal_12 m s ad message out tag r f e =
    none_left s.nonces r
    (passed 12 AllowanceSpent (leb (price m (Seal ad message out tag)) s.left) _ r e (λ z. omega arith)
    (passed 12 TagLength (eqb (length tag) 16) _ r e (λ z. omega arith)
    (passed 12 OutputLength (eqb (length out) (length message)) _ r e (λ z. omega arith)
    (passed 12 TextLength (leb (length message) 65535) _ r e (λ z. omega arith)
    (passed 12 DataLength (leb (length ad) 65535) _ r e (λ z. omega arith) f)))))

open_not_12 : (m : Scheme) (s : Standing) (nonce ad text tag out : List ℕ) (r : Refusal) → first_no (questions m s (Open nonce ad text tag out)) ≡ Some r → number_of r ≡ 12 → ⊥
open_not_12 m s nonce ad text tag out r f e =
    let z : None ≡ Some r =
    passed 12 AllowanceSpent (leb (price m (Open nonce ad text tag out)) s.left) [] r e (λ z. omega arith)
    (passed 12 NonceLength (eqb (length nonce) 16) _ r e (λ z. omega arith)
    (passed 12 TagLength (eqb (length tag) 16) _ r e (λ z. omega arith)
    (passed 12 OutputLength (eqb (length out) (length text)) _ r e (λ z. omega arith)
    (passed 12 TextLength (leb (length text) 65535) _ r e (λ z. omega arith)
    (passed 12 DataLength (leb (length ad) 65535) _ r e (λ z. omega arith) f))))) in
    some_not_none r (sym z)

record Facts (m : Scheme) (s : Standing) (c : Call) (a : Reply) : Type 0 where
  pays : cost_told a ≤ s.left
  clears : number_told a ≢ 0 → a ≡ Gave (number_told a) (0, 0) (cost_told a) (map zeros (places c))
  free : number_told a ≢ 0 → number_told a ≢ number_of WrongFrame → cost_told a ≡ 0
  early : number_told a ≡ number_of NoNonce → s.nonces ≡ []

seal_facts : (m : Scheme) (s : Standing) (ad message out tag : List ℕ) (o : Option Refusal) → first_no (questions m s (Seal ad message out tag)) ≡ o → Facts m s (Seal ad message out tag) (seal_reply m s ad message out tag o)
seal_facts m s ad message out tag None e =
    record {
      pays = (seal_can_be m s ad message out tag e).enough;
      clears = λ (n : ◌≢◌ {A = ℕ} 0 0). absurd (n refl);
      free = λ (n : ◌≢◌ {A = ℕ} 0 0) _. absurd (n refl);
      early = λ (z : ◌≡◌ {A = ℕ} 0 12). absurd (omega arith);
    }
seal_facts m s ad message out tag (Some r) e =
    record { pays = omega arith; clears = λ _. refl; free = λ _ _. refl; early = λ z. seal_12 m s ad message out tag r e z }

-- as many zeros as the text has bytes are as many as the output place has
zeros_alike : (m : Scheme) (s : Standing) (nonce ad text tag out : List ℕ) → first_no (questions m s (Open nonce ad text tag out)) ≡ None → zeros text ≡ zeros out
zeros_alike m s nonce ad text tag out e = ap (λ (n : ℕ). replicate n 0) (sym (open_out m s nonce ad text tag out e))

judged_facts : (m : Scheme) → Keeps m → (s : Standing) (nonce ad text tag out : List ℕ) → first_no (questions m s (Open nonce ad text tag out)) ≡ None →
    (right : Bool) (written : List ℕ) → Opened m s.cipher s.key nonce ad text tag right written → Facts m s (Open nonce ad text tag out) (verdict_reply (m.costs (length ad) (length text)) right written)
judged_facts m ok s nonce ad text tag out e true written op =
    record {
      pays = (open_sizes m s nonce ad text tag out e).1;
      clears = λ (n : ◌≢◌ {A = ℕ} 0 0). absurd (n refl);
      free = λ (n : ◌≢◌ {A = ℕ} 0 0) _. absurd (n refl);
      early = λ (z : ◌≡◌ {A = ℕ} 0 12). absurd (omega arith);
    }
judged_facts m ok s nonce ad text tag out e false written op =
    let h : (m.costs (length ad) (length text)).right ≤ s.left = (open_sizes m s nonce ad text tag out e).1 in
    let w : (m.costs (length ad) (length text)).wrong ≤ (m.costs (length ad) (length text)).right = ok.wrong_least (length ad) (length text) in
    let z : written ≡ zeros out = op.1 ∙ zeros_alike m s nonce ad text tag out e in
    record {
      pays = omega arith;
      clears = λ _. ap (λ (x : List ℕ). Gave 13 (0, 0) (m.costs (length ad) (length text)).wrong (x ∷ [])) z;
      free = λ _ (n : ◌≢◌ {A = ℕ} 13 13). absurd (n refl);
      early = λ (z : ◌≡◌ {A = ℕ} 13 12). absurd (omega arith);
    }

open_facts : (m : Scheme) → Keeps m → (s : Standing) (nonce ad text tag out : List ℕ) (o : Option Refusal) (a : Reply) → first_no (questions m s (Open nonce ad text tag out)) ≡ o →
    OpenFits m s nonce ad text tag out o a → Facts m s (Open nonce ad text tag out) a
open_facts m ok s nonce ad text tag out None a e (right, written, q, op) =
    subst (λ (x : Reply). Facts m s (Open nonce ad text tag out) x) (sym q) (judged_facts m ok s nonce ad text tag out e right written op)
open_facts m ok s nonce ad text tag out (Some r) a e f =
    let c : Call = Open nonce ad text tag out in
    let k : Facts m s c (refusal_reply r (out ∷ [])) =
    record { pays = omega arith; clears = λ _. refl; free = λ _ _. refl; early = λ z. absurd (open_not_12 m s nonce ad text tag out r e z) } in
    subst (λ (x : Reply). Facts m s c x) (sym f) k

facts : (m : Scheme) → Keeps m → (s : Standing) (c : Call) (a : Reply) → Fits m s c a → Facts m s c a
facts m ok s (Seal ad message out tag) a f =
    subst (λ (x : Reply). Facts m s (Seal ad message out tag) x) (sym f) (seal_facts m s ad message out tag (first_no (questions m s (Seal ad message out tag))) refl)
facts m ok s (Open nonce ad text tag out) a f = open_facts m ok s nonce ad text tag out (first_no (questions m s (Open nonce ad text tag out))) a refl f
facts m ok s Read a f =
    let k : Facts m s Read (Told s.left s.sealed s.opened s.wrong) =
    record {
      pays = omega arith;
      clears = λ (n : ◌≢◌ {A = ℕ} 0 0). absurd (n refl);
      free = λ _ _. refl;
      early = λ (z : ◌≡◌ {A = ℕ} 0 12). absurd (omega arith);
    } in
    subst (λ (x : Reply). Facts m s Read x) (sym f) k

-- ---- numbers, costs, readings
within : (m : Scheme) → Keeps m → (g : Making) (b es : List Event) → costs_told b ≤ g.allowance → Ran m g b es → costs_told b + costs_told es ≤ g.allowance
within m ok g b [] h r = omega arith
within m ok g b (event c a ∷ es) h r =
    let p : cost_told a ≤ g.allowance - costs_told b = (facts m ok (standing g b) c a r.0).pays in
    let d : costs_told (b ++ (event c a ∷ [])) ≡ costs_told b + cost_told a = costs_push b (event c a) in
    let w : costs_told (b ++ (event c a ∷ [])) + costs_told es ≤ g.allowance = within m ok g (b ++ (event c a ∷ [])) es (omega arith) r.1 in
    omega arith

pub numbers_costs_readings : (m : Scheme) → Keeps m → (g : Making) (es : List Event) → Ran m g [] es → NumbersCostsReadings m g es
numbers_costs_readings m ok g es r =
    let each = ran_each m g es r in
    let w : 0 + costs_told es ≤ g.allowance = within m ok g [] es (omega arith) r in
    record {
      each = each;
      readings = λ before a came. each before Read a came;
      refusals = λ before c a came. (facts m ok (standing g before) c a (each before c a came)).clears;
      free = λ before c a came. (facts m ok (standing g before) c a (each before c a came)).free;
      within = omega arith;
    }

-- ---- every seal that can be is taken
some_next : (ns : List (List ℕ)) (n : List ℕ) (later : List (List ℕ)) → ns ≡ n ∷ later → (some_left ns ≡ true) × (next ns ≡ n)
some_next ns n later e = (ap some_left e, ap next e)

pub every_seal : (m : Scheme) → Keeps m → (g : Making) (es : List Event) → Ran m g [] es → EverySealThatCanBeIsTaken m g es
every_seal m ok g es r =
    let each = ran_each m g es r in
    record {
      taken = λ before ad message out tag a came can n later e.
          let s : Standing = standing g before in
          let p = some_next s.nonces n later e in
          let none : first_no (questions m s (Seal ad message out tag)) ≡ None = seal_unrefused m s ad message out tag (record { sizes = can.sizes; enough = can.enough; some = p.0 }) in
          each before (Seal ad message out tag) a came ∙ ap (seal_reply m s ad message out tag) none
          ∙ ap (λ (k : List ℕ). Gave 0 (words k) (m.costs (length ad) (length message)).seal ((m.frame g.cipher g.key k ad message).0 ∷ (m.frame g.cipher g.key k ad message).1 ∷ [])) p.1;
      never_early = λ before c a came. (facts m ok (standing g before) c a (each before c a came)).early;
    }

-- ---- opens exactly the right frames
opens_right : (m : Scheme) → Keeps m → (s : Standing) (nonce ad text tag out message : List ℕ) (a : Reply) → OpenFits m s nonce ad text tag out None a →
    SealsTo m s.cipher s.key nonce ad message text tag → a ≡ Gave 0 (0, 0) (m.costs (length ad) (length text)).right (message ∷ [])
opens_right m ok s nonce ad text tag out message a (true, written, q, op) t =
    q ∙ ap (λ (x : List ℕ). Gave 0 (0, 0) (m.costs (length ad) (length text)).right (x ∷ [])) (ok.one_message s.cipher s.key nonce ad written message (op ∙ sym t))
opens_right m ok s nonce ad text tag out message a (false, written, q, op) t = absurd (op.0 (message, t))

opens_wrong : (m : Scheme) (s : Standing) (nonce ad text tag out : List ℕ) (a : Reply) → first_no (questions m s (Open nonce ad text tag out)) ≡ None → OpenFits m s nonce ad text tag out None a →
    (Right m s.cipher s.key nonce ad text tag → ⊥) → a ≡ Gave 13 (0, 0) (m.costs (length ad) (length text)).wrong (zeros out ∷ [])
opens_wrong m s nonce ad text tag out a e (true, written, q, op) n = absurd (n (written, op))
opens_wrong m s nonce ad text tag out a e (false, written, q, op) n = q ∙ ap (λ (x : List ℕ). Gave 13 (0, 0) (m.costs (length ad) (length text)).wrong (x ∷ [])) (op.1 ∙ zeros_alike m s nonce ad text tag out e)

opens_only : (m : Scheme) (s : Standing) (nonce ad text tag out : List ℕ) (o : Option Refusal) (a : Reply) → OpenFits m s nonce ad text tag out o a → number_told a ≡ 0 →
    Right m s.cipher s.key nonce ad text tag
opens_only m s nonce ad text tag out None a (true, written, q, op) e = (written, op)
opens_only m s nonce ad text tag out None a (false, written, q, op) e = let z : ◌≡◌ {A = ℕ} 13 0 = sym (ap number_told q) ∙ e in absurd (omega arith)
opens_only m s nonce ad text tag out (Some r) a q e = absurd (number_not_0 r (sym (ap number_told q) ∙ e))

pub opens : (m : Scheme) → Keeps m → (g : Making) (es : List Event) → Ran m g [] es → OpensExactlyTheRightFrames m g es
opens m ok g es r =
    let each = ran_each m g es r in
    let none : (before : List Event) (nonce ad text tag out : List ℕ) → Allowed m g before (Open nonce ad text tag out) → first_no (questions m (standing g before) (Open nonce ad text tag out)) ≡ None =
    λ before nonce ad text tag out can. open_unrefused m (standing g before) nonce ad text tag out can.sizes can.enough in
    let judged : (before : List Event) (nonce ad text tag out : List ℕ) (a : Reply) → Came es before (Open nonce ad text tag out) a → Allowed m g before (Open nonce ad text tag out) → OpenFits m (standing g before) nonce ad text tag out None a =
    λ before nonce ad text tag out a came can.
    subst (λ (o : Option Refusal). OpenFits m (standing g before) nonce ad text tag out o a) (none before nonce ad text tag out can) (each before (Open nonce ad text tag out) a came) in
    record {
      right = λ before nonce ad text tag out a came can message t. opens_right m ok (standing g before) nonce ad text tag out message a (judged before nonce ad text tag out a came can) t;
      wrong = λ before nonce ad text tag out a came can n. opens_wrong m (standing g before) nonce ad text tag out a (none before nonce ad text tag out can) (judged before nonce ad text tag out a came can) n;
      only_right = λ before nonce ad text tag out a came e.
          opens_only m (standing g before) nonce ad text tag out (first_no (questions m (standing g before) (Open nonce ad text tag out))) a (each before (Open nonce ad text tag out) a came) e;
      one_message = λ nonce ad text tag one two p q. ok.one_message g.cipher g.key nonce ad one two (p ∙ sym q);
    }

-- ---- never twice

-- equally many digits that write one number are the same
same_digits : (x y : ℕ) (xs ys : List ℕ) → length xs ≡ length ys → AllByRecursion (λ b. b < 256) xs → AllByRecursion (λ b. b < 256) ys → number_from_digits_after 256 x xs ≡ number_from_digits_after 256 y ys → (x ≡ y) × (xs ≡ ys)
same_digits x y [] [] l a b e = (e, refl)
same_digits x y [] (d ∷ ys) l a b e = absurd (omega arith)
same_digits x y (c ∷ xs) [] l a b e = absurd (omega arith)
same_digits x y (c ∷ xs) (d ∷ ys) l a b e =
    let h : (x * 256 + c ≡ y * 256 + d) × (xs ≡ ys) = same_digits (x * 256 + c) (y * 256 + d) xs ys (omega arith) a.1 b.1 e in
    let hc : c < 256 = a.0 in
    let hd : d < 256 = b.0 in
    let hh : x * 256 + c ≡ y * 256 + d = h.0 in
    let u : x ≡ y = omega arith in
    let v : c ≡ d = omega arith in
    let w : xs ≡ ys = h.1 in
    (u, cc)

-- two nonces that are the same two numbers are the same
same_words : (n k : List ℕ) → Nonce n → Nonce k → words n ≡ words k → n ≡ k
same_words n k a b e =
    let la : length n ≡ 16 = a.sixteen in
    let lb : length k ≡ 16 = b.sixteen in
    let t : take 8 n ≡ take 8 k = (same_digits 0 0 (take 8 n) (take 8 k) (simp length-take (rw (la, lb) refl)) (All-take (λ b. b < 256) 8 n a.bytes) (All-take (λ b. b < 256) 8 k b.bytes) (ap (λ w. w.0) e)).1 in
    let d : drop 8 n ≡ drop 8 k = (same_digits 0 0 (drop 8 n) (drop 8 k) (simp length-drop (rw (la, lb) refl)) (All-drop (λ b. b < 256) 8 n a.bytes) (All-drop (λ b. b < 256) 8 k b.bytes) (ap (λ w. w.1) e)).1 in
    cc (take-append-drop 8 n, take-append-drop 8 k)

words_at : (ns : List (List ℕ)) (k i : ℕ) (d : ℕ × ℕ) → i < k → i < length (take k ns) → get_or (map words (take k ns)) i d ≡ words (get_or ns i [])
words_at ns k i d h l = get_or-map words (take k ns) i [] d l ∙ ap words (get_or-take k ns i [] h)

words_once : (ns : List (List ℕ)) → NoncesProper ns → (k : ℕ) → NoRepeats (map words (take k ns))
words_once ns p k i j (h, l) d e =
    let a : length (map words (take k ns)) ≡ length (take k ns) = length-map (take k ns) words in
    let b : length (take k ns) ≡ min k (length ns) = length-take k ns in
    let x : words (get_or ns i []) ≡ words (get_or ns j []) = sym (words_at ns k i d (omega arith) (omega arith)) ∙ e ∙ words_at ns k j d (omega arith) (omega arith) in
    p.no_repeats i j (h, omega arith) [] (same_words (get_or ns i []) (get_or ns j []) (All-get_or Nonce ns i [] (omega arith) p.nonces) (All-get_or Nonce ns j [] (omega arith) p.nonces) x)

seal_next : (m : Scheme) (s : Standing) (ad message out tag : List ℕ) (o : Option Refusal) → first_no (questions m s (Seal ad message out tag)) ≡ o → eqb (number_told (seal_reply m s ad message out tag o)) 0 ≡ true →
    (some_left s.nonces ≡ true) × (nonce_told (seal_reply m s ad message out tag o) ≡ words (next s.nonces))
seal_next m s ad message out tag None e t = ((seal_can_be m s ad message out tag e).some, refl)
seal_next m s ad message out tag (Some r) e t = absurd (number_not_0 r (eqb-true (number_of r) 0 t))

taken_next : (m : Scheme) (s : Standing) (c : Call) (a : Reply) → Fits m s c a → taken_seal (event c a) ≡ true → (some_left s.nonces ≡ true) × (nonce_told a ≡ words (next s.nonces))
taken_next m s (Seal ad message out tag) a f =
    subst (λ (x : Reply). eqb (number_told x) 0 ≡ true → (some_left s.nonces ≡ true) × (nonce_told x ≡ words (next s.nonces))) (sym f)
    (seal_next m s ad message out tag (first_no (questions m s (Seal ad message out tag))) refl)
taken_next m s (Open nonce ad text tag out) a f = λ t. absurd (false≢true t)
taken_next m s Read a f = λ t. absurd (false≢true t)

told_by : (t : Bool) (n : ℕ × ℕ) (rest : List (ℕ × ℕ)) (k : ℕ) (xs : List (List ℕ)) → (t ≡ true → (some_left xs ≡ true) × (n ≡ words (next xs))) → rest ≡ map words (take k (drop (tick t) xs)) →
    cond t (n ∷ rest) rest ≡ map words (take (tick t + k) xs)
told_by true n rest k [] h e = absurd (false≢true (h refl).0)
told_by true n rest k (x ∷ xs) h e = let w : n ≡ words x = (h refl).1 in rw (one-add k) (ap (λ (y : ℕ × ℕ). y ∷ rest) w ∙ ap (λ (y : List (ℕ × ℕ)). words x ∷ y) e)
told_by false n rest k xs h e = rw (zero-add k) e

-- the nonces told are the first of those to come, in order
told : (m : Scheme) (g : Making) (b es : List Event) → Ran m g b es → nonces_told es ≡ map words (take (how_many taken_seal es) (nonces_to_come g b))
told m g b [] r = refl
told m g b (event c a ∷ es) r =
    let e : Event = event c a in
    let s : Standing = standing g b in
    let ih : nonces_told es ≡ map words (take (how_many taken_seal es) (nonces_to_come g (b ++ (e ∷ [])))) = told m g (b ++ (e ∷ [])) es r.1 in
    let p : nonces_to_come g (b ++ (e ∷ [])) ≡ drop (tick (taken_seal e)) s.nonces = ap (λ (x : Standing). x.nonces) (standing_push g b e) in
    told_by (taken_seal e) (nonce_told a) (nonces_told es) (how_many taken_seal es) s.nonces (taken_next m s c a r.0) (ih ∙ ap (λ (x : List (List ℕ)). map words (take (how_many taken_seal es) x)) p)

pub never_twice : (m : Scheme) (g : Making) → NoncesProper g.nonces → (es : List Event) → Ran m g [] es → NeverTwice m g es
never_twice m g n es r =
    let t : nonces_told es ≡ map words (take (how_many taken_seal es) g.nonces) = told m g [] es r in
    record { in_order = t; once = subst (λ (l : List (ℕ × ℕ)). NoRepeats l) (sym t) (words_once g.nonces n (how_many taken_seal es)) }

-- ---- all together
pub counts : (m : Scheme) (g : Making) (es : List Event) (t : Standing) → Run m (fresh g) es t →
    Called g.cipher g.count (costs_told es) t.cipher t.count × (t.nonces ≡ nonces_to_come g es)
counts m g es t r =
    let e : t ≡ standing g es = run_stands m g es t r in
    (record { same = ap (λ (z : Standing). z.cipher) e; counted = ap (λ (z : Standing). z.count) e }, ap (λ (z : Standing). z.nonces) e)

pub promises : (m : Scheme) → Keeps m → (g : Making) → NoncesProper g.nonces → (es : List Event) (t : Standing) → Run m (fresh g) es t → Promises m g es (record { cipher = t.cipher; count = t.count; nonces = t.nonces })
promises m ok g n es t r =
    let x : Ran m g [] es = run_ran m g es t r in
    let k = counts m g es t r in
    record {
      never_twice = never_twice m g n es x;
      every_seal_that_can_be_is_taken = every_seal m ok g es x;
      opens_exactly_the_right_frames = opens m ok g es x;
      numbers_costs_readings = numbers_costs_readings m ok g es x;
      called = k.0;
      nonces_left = k.1;
    }
