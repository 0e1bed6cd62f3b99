-- A buffer that is filled from the front, as far as there is room.
use Rattle.std.proofs.Common.{◌≡◌, ℕ, ◌+◌, ◌-◌, ◌<◌, ◌≤◌, min, List, ◌++◌, length, take, drop, set, replicate, sym, ap, ◌∙◌, ⊎_elim, arith, length-append}
use lib.Seq.{take-append-add}
use borrow.Rule.Slice.PartMut.{put_mid}
use Rattle.std.proofs.lemmas.List.{take_all, take-append-le, take-take, length-take-le, drop-drop, drop-set-lt, drop-replicate}
use Rattle.std.proofs.lemmas.Slice.{take-put_mid, drop-put_mid}
use Rattle.std.proofs.lemmas.Bool.{cases_lt}

-- as many as there is room for
take_room : (xs : List ℕ) (n room : ℕ) → n ≡ min (length xs) room → take n xs ≡ take room xs
take_room xs n room e =
    ⊎_elim (λ h. ap (λ k. take k xs) (omega arith)) (λ h. take_all n xs (omega arith) ∙ sym (take_all room xs (omega arith))) (cases_lt room (length xs))

-- what stood there stays, and what comes is cut to the room left
take_behind : (room : ℕ) (xs ys : List ℕ) → length xs ≤ room → take room (xs ++ ys) ≡ xs ++ take (room - length xs) ys
take_behind room xs ys h =
    let e : length xs + (room - length xs) ≡ room = omega arith in
    ap (λ k. take k (xs ++ ys)) (sym e) ∙ take-append-add xs ys (room - length xs)

-- cutting early or late is the same
take_again : (room : ℕ) (xs ys : List ℕ) → take room (take room xs ++ ys) ≡ take room (xs ++ ys)
take_again room xs ys =
    ⊎_elim
    (λ h.
    let long : length (take room xs) ≡ room = length-take-le room xs (omega arith) in
    take-append-le room (take room xs) ys (omega arith) ∙ take-take room room xs (omega arith) ∙ sym (take-append-le room xs ys (omega arith)))
    (λ h. ap (λ p. take room (p ++ ys)) (take_all room xs (omega arith)))
    (cases_lt room (length xs))

-- where there is room, all that comes is held
pub pushed_whole : (room : ℕ) (was more : List ℕ) {now : List ℕ} → length was + length more ≤ room → now ≡ take room (was ++ more) → now ≡ was ++ more
pushed_whole room was more h e = e ∙ take_all room (was ++ more) (omega (arith, length-append was more))

-- one push after another
pub pushed_on : (room : ℕ) (was more : List ℕ) {mid now : List ℕ} → mid ≡ take room was → now ≡ take room (mid ++ more) → now ≡ take room (was ++ more)
pushed_on room was more e f = f ∙ ap (λ l. take room (l ++ more)) e ∙ take_again room was more

-- the room of a buffer, of which the first len are held, and zeros lie behind
module _ (room : ℕ) (bytes : List ℕ) (len : ℕ) (all : length bytes ≡ room) (fits : len ≤ room) (zeros : drop len bytes ≡ replicate (room - len) 0) where
  held_long : length (take len bytes) ≡ len
  held_long = length-take-le len bytes (omega arith)

  left : (n : ℕ) → room - len - n ≡ room - (len + n)
  left n = omega arith

  -- zeros lie behind whatever more is held
  fewer_zeros : (n : ℕ) → drop (len + n) bytes ≡ replicate (room - (len + n)) 0
  fewer_zeros n = sym (drop-drop n len bytes) ∙ ap (drop n) zeros ∙ drop-replicate n (room - len) 0 ∙ ap (λ k. replicate k 0) (left n)

  -- behind a byte more
  pub push_zeros : (b : ℕ) → len < room → drop (len + 1) (set bytes len b) ≡ replicate (room - (len + 1)) 0
  push_zeros b h = drop-set-lt (len + 1) bytes len b (omega arith) ∙ fewer_zeros 1

  -- as many bytes as there is room for
  pub extend_fits : (n k : ℕ) (more part : List ℕ) → n ≡ min (length more) (room - len) → k ≡ n → part ≡ take n more →
      take (len + n) (put_mid len k bytes part) ≡ take room (take len bytes ++ more)
  extend_fits n k more part e same p =
      let cut : part ≡ take (room - length (take len bytes)) more = p ∙ take_room more n (room - length (take len bytes)) (omega (arith, held_long)) in
      take-put_mid len k bytes part (len + n) (omega (arith, ap length p, length-take-le n more (omega arith))) (omega arith)
      ∙ ap (λ l. take len bytes ++ l) cut ∙ sym (take_behind room (take len bytes) more (omega (arith, held_long)))

  pub extend_zeros : (n k : ℕ) (more part : List ℕ) → n ≡ min (length more) (room - len) → k ≡ n → part ≡ take n more →
      drop (len + n) (put_mid len k bytes part) ≡ replicate (room - (len + n)) 0
  extend_zeros n k more part e same p =
      drop-put_mid len k bytes part (len + n) (omega arith) (omega arith) (omega (arith, ap length p, length-take-le n more (omega arith))) ∙ fewer_zeros n
