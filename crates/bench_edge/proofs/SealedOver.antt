-- One seal more of the same message.
use mathlib.Core.Path.{◌≡◌, sym, ap, ◌∙◌}
use mathlib.Core.List.{List, [], ◌∷◌}
use mathlib.Core.Logic.{◌≢◌}
use Prim.Native.Nat.{ℕ, ◌+◌, ◌<◌}
use native.Mathlib.Numerals.{add-one}
use native.Mathlib.Omega.{arith}
use borrow.Author.Count.{below_more}
use lib.ListN.{length, get_or, set}
use lib.Seq.{get_or-set_same, get_or-set_other}
use Rattle.refusals.specs.Refusals.{answer_number}
use Rattle.mode.specs.Mode.{Scheme}
use Rattle.promise.specs.Calls.{Seal, Reply, number_told}
use Rattle.promise.specs.Answers.{Standing, Stepped}
use Rattle.mode.specs.declared.Outcome.{Outcome}
use Rattle.post.specs.Post.{sealed}
use Rattle.bench_edge.specs.Posts.{Between, between, next_reply, moved_by, after}

module _ (m : Scheme) (ad message : List ℕ) where
  -- the first i answers are told, and the post stands after i seals
  pub record Upto (b c : Between) (answers : List ℕ) (i : ℕ) : Type 0 where
    pub ends : c ≡ after m ad message i b
    pub numbers : (k : ℕ) → k < i → get_or answers k 0 ≡ number_told (next_reply m ad message (after m ad message k b))

  -- a seal leads where its reply does
  moved : (s t : Standing) (out tag out' tag' : List ℕ) (r : Outcome (ℕ × ℕ)) → Stepped m s (Seal ad message out tag) (sealed r (out' ∷ tag' ∷ [])) t →
      between t out' tag' ≡ moved_by m ad message (between s out tag) (next_reply m ad message (between s out tag))
  moved s t out tag out' tag' r st =
      ap (λ (u : Standing). between u out' tag') st.leaves ∙ ap (λ (a : Reply). moved_by m ad message (between s out tag) a) st.fits

  pub one_more : (b : Between) (s t : Standing) (out tag out' tag' answers : List ℕ) (i number : ℕ) (r : Outcome (ℕ × ℕ)) → Upto b (between s out tag) answers i → i < length answers →
      Stepped m s (Seal ad message out tag) (sealed r (out' ∷ tag' ∷ [])) t → number ≡ answer_number r.answer → Upto b (between t out' tag') (set answers i number) (i + 1)
  one_more b s t out tag out' tag' answers i number r up h st e =
      record {
        ends = moved s t out tag out' tag' r st ∙ ap (λ (c : Between). moved_by m ad message c (next_reply m ad message c)) up.ends ∙ ap (λ (n : ℕ). after m ad message n b) (sym (add-one i));
        numbers =
            below_more _ _
            (λ k l. let ne : k ≢ i = omega arith in rw get_or-set_other (up.numbers k l))
            (rw get_or-set_same (e ∙ ap number_told st.fits ∙ ap (λ (c : Between). number_told (next_reply m ad message c)) up.ends));
      }
