-- The pass the other way gives the text back, and leaves the same state.
use Rattle.std.proofs.Common.{◌≡◌, ℕ, zero, suc, ◌-◌, ◌/◌, ◌<◌, ◌≤◌, List, ◌++◌, length, take, drop, refl, ◌∙◌, arith}
use Rattle.std.proofs.lemmas.List.{length-drop, length-append, length-take-le, take_at, drop_at, take-append-drop}
use Rattle.byte_blocks.proofs.Leaves.{length-xors, xors_twice}
use Rattle.byte_blocks.specs.Bytes.{xors, g_of}
use Rattle.byte_blocks.specs.Counter.{stepped}
use Rattle.byte_blocks.specs.Block.{blocks}
use Rattle.cipher.specs.Cipher.{Answer, enciphered}
use Rattle.passes.specs.declared.Direction.{Direction}
use Rattle.passes.specs.declared.Direction.TheVariants.{Sealing, Opening}
use Rattle.passes.specs.Passes.{mixed, walked, left}
use Rattle.passes.proofs.Walking.{walked_more, walked_last, left_more, left_last}

-- the other direction
abbrev pub other : Direction → Direction
other Sealing = Opening
other Opening = Sealing

mixed_back : (b : Direction) (s x : List ℕ) → mixed (other b) s (xors x (g_of s)) ≡ mixed b s x
mixed_back Sealing s x = rw (xors_twice x (g_of s))
mixed_back Opening s x = refl

module _ (f : Answer) (k n : List ℕ) (d : ℕ) where
  long : (b : Direction) (j c : ℕ) (s xs : List ℕ) → (length xs - 1) / 16 ≡ j → length (walked f k n d b c s (blocks xs)) ≡ length xs
  long b zero c s xs h =
      let short : length xs ≤ 16 = omega arith in
      rw (walked_last f k n d b c s xs short) (length-xors xs (g_of s))
  long b (suc j) c s xs h =
      let big : 16 < length xs = omega arith in
      let ld : length (drop 16 xs) ≡ length xs - 16 = length-drop 16 xs in
      let s' : List ℕ = enciphered f k n d c (mixed b s (take 16 xs)) in
      let more : length (walked f k n d b (stepped c) s' (blocks (drop 16 xs))) ≡ length (drop 16 xs) = long b j (stepped c) s' (drop 16 xs) (omega arith) in
      let ly : length (xors (take 16 xs) (g_of s)) ≡ 16 = length-xors (take 16 xs) (g_of s) ∙ length-take-le 16 xs (omega arith) in
      rw (walked_more f k n d b c s xs big) (length-append (xors (take 16 xs) (g_of s)) _ ∙ omega arith)

  pub length_walked : (b : Direction) (c : ℕ) (s xs : List ℕ) → length (walked f k n d b c s (blocks xs)) ≡ length xs
  length_walked b c s xs = long b ((length xs - 1) / 16) c s xs refl

  back : (b : Direction) (j c : ℕ) (s xs : List ℕ) → (length xs - 1) / 16 ≡ j →
      (walked f k n d (other b) c s (blocks (walked f k n d b c s (blocks xs))) ≡ xs)
      × (left f k n d (other b) c s (blocks (walked f k n d b c s (blocks xs))) ≡ left f k n d b c s (blocks xs))
  back b zero c s xs h =
      let short : length xs ≤ 16 = omega arith in
      let y : List ℕ = xors xs (g_of s) in
      let ly : length y ≤ 16 = rw (length-xors xs (g_of s)) short in (
        rw (walked_last f k n d b c s xs short) (walked_last f k n d (other b) c s y ly ∙ xors_twice xs (g_of s)),
        rw (walked_last f k n d b c s xs short, left_last f k n d b c s xs short) (left_last f k n d (other b) c s y ly ∙ mixed_back b s xs),
      )
  back b (suc j) c s xs h =
      let big : 16 < length xs = omega arith in
      let ld : length (drop 16 xs) ≡ length xs - 16 = length-drop 16 xs in
      let x : List ℕ = take 16 xs in
      let y : List ℕ = xors (take 16 xs) (g_of s) in
      let s' : List ℕ = enciphered f k n d c (mixed b s (take 16 xs)) in
      let w : List ℕ = walked f k n d b (stepped c) s' (blocks (drop 16 xs)) in
      let lw : length w ≡ length (drop 16 xs) = length_walked b (stepped c) s' (drop 16 xs) in
      let ly : length y ≡ 16 = length-xors (take 16 xs) (g_of s) ∙ length-take-le 16 xs (omega arith) in
      let big' : 16 < length (y ++ w) = omega (arith, length-append y w) in
      let rest = back b j (stepped c) s' (drop 16 xs) (omega arith) in (
        rw (walked_more f k n d b c s xs big)
            (walked_more f k n d (other b) c s (y ++ w) big'
            ∙ rw (take_at y w 16 ly, drop_at y w 16 ly, mixed_back b s x, xors_twice x (g_of s), rest.0) (take-append-drop 16 xs)),
        rw (walked_more f k n d b c s xs big, left_more f k n d b c s xs big)
            (left_more f k n d (other b) c s (y ++ w) big'
            ∙ rw (take_at y w 16 ly, drop_at y w 16 ly, mixed_back b s x) rest.1),
      )

  pub walked_back : (b : Direction) (c : ℕ) (s xs : List ℕ) → walked f k n d (other b) c s (blocks (walked f k n d b c s (blocks xs))) ≡ xs
  walked_back b c s xs = (back b ((length xs - 1) / 16) c s xs refl).0

  pub left_back : (b : Direction) (c : ℕ) (s xs : List ℕ) → left f k n d (other b) c s (blocks (walked f k n d b c s (blocks xs))) ≡ left f k n d b c s (blocks xs)
  left_back b c s xs = (back b ((length xs - 1) / 16) c s xs refl).1
