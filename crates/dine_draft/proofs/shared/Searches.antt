-- Searches through a slice whose test looks only at what is seen of an element.
use denote.Param.Members.{Mut}
use Rattle.std.proofs.Common.{◌≡◌, ℕ, Bool, true, false, List, map, length, Option, Some, None, Bor, sym, ap, ◌∙◌}
use Rattle.std.specs.List.{FoldsTo, list_any, list_all, position}
use Rattle.std.specs.Iterator.{YieldsThen}
use Rattle.std.specs.Option.{MatchOption}
use Rattle.std.specs.Fn.{Called}
use Rattle.std.specs.Slice.Iter.{iter_rest}
use Rattle.std.proofs.lemmas.Fn.{fronts}
use Rattle.std.proofs.lemmas.Iterator.{YieldsList-from_slice}
use Rattle.std.proofs.lemmas.Iterator.Search.{any_from_yields_List, all_from_yields_List, position_from_yields_List}
use Rattle.std.proofs.lemmas.List.Folds.{list_all-map}
use Rattle.dine_draft.proofs.shared.ListLemmas.{list_any-map, position-map}

module _ {V S F : Type 0} {g : Mut F (Bor V × Unit {0}) Bool} {s u : _} {f : F} (seen : V → S) (test : S → Bool) (vs : List V) (ds : List S) where
  -- what `any` does with the test
  pub any_seen : (r : Bool)
      → (xs : List (Bor V)) × (o : Option (Bor V)) × (j : F) × YieldsThen fronts s xs o u × FoldsTo (λ p x q. Called g p (x, tt) false q) f xs j × MatchOption o (r ≡ false) (λ x. (r ≡ true) × ((h : F) × Called g j (x, tt) true h))
      → iter_rest s ≡ vs → ((x : Bor V) (b : Bool) (q : F) → Called g f (x, tt) b q → (q ≡ f) × (b ≡ test (seen x.now))) → map seen vs ≡ ds → r ≡ list_any test ds
  any_seen r ran rest tests same =
      any_from_yields_List (λ v. test (seen v)) u f r ran (YieldsList-from_slice vs rest) tests ∙ sym (list_any-map test seen vs) ∙ ap (list_any test) same

  -- what `all` does with the test
  pub all_seen : (r : Bool)
      → (xs : List (Bor V)) × (o : Option (Bor V)) × (j : F) × YieldsThen fronts s xs o u × FoldsTo (λ p x q. Called g p (x, tt) true q) f xs j × MatchOption o (r ≡ true) (λ x. (r ≡ false) × ((h : F) × Called g j (x, tt) false h))
      → iter_rest s ≡ vs → ((x : Bor V) (b : Bool) (q : F) → Called g f (x, tt) b q → (q ≡ f) × (b ≡ test (seen x.now))) → map seen vs ≡ ds → r ≡ list_all test ds
  all_seen r ran rest tests same =
      all_from_yields_List (λ v. test (seen v)) u f r ran (YieldsList-from_slice vs rest) tests ∙ sym (list_all-map test seen vs) ∙ ap (list_all test) same

  -- what `position` does with the test
  pub position_seen : (r : Option ℕ)
      → (xs : List (Bor V)) × (o : Option (Bor V)) × (j : F) × YieldsThen fronts s xs o u × FoldsTo (λ p x q. Called g p (x, tt) false q) f xs j × MatchOption o (r ≡ None) (λ x. (r ≡ Some (length xs)) × ((h : F) × Called g j (x, tt) true h))
      → iter_rest s ≡ vs → ((x : Bor V) (b : Bool) (q : F) → Called g f (x, tt) b q → (q ≡ f) × (b ≡ test (seen x.now))) → map seen vs ≡ ds → r ≡ position test ds
  position_seen r ran rest tests same =
      position_from_yields_List (λ v. test (seen v)) u f r ran (YieldsList-from_slice vs rest) tests ∙ sym (position-map test seen vs) ∙ ap (position test) same
