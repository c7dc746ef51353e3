-- What is found in a list.
use Rattle.std.proofs.Common.{◌≡◌, Bool, true, List, [], ◌∷◌, Option, Some, None, find, sym, ◌∙◌, ap, inl, inr}
use Rattle.std.proofs.lemmas.Bool.{cases_Bool, cond-false, cond-true}
use Rattle.std.proofs.lemmas.Option.{none-some, same_Some}

-- what is found passes the test
pub found_passes : {X : Type 0} (test : X → Bool) (xs : List X) (x : X) → find test xs ≡ Some x → test x ≡ true
found_passes test [] x is = absurd (none-some x is)
found_passes test (y ∷ ys) x is = elim (cases_Bool (test y)) [
  | inl passes ↦ ap test (sym (same_Some y x (sym (cond-true (test y) (Some y) (find test ys) passes) ∙ is))) ∙ passes
  | inr fails ↦ found_passes test ys x (sym (cond-false (test y) (Some y) (find test ys) fails) ∙ is)
]
