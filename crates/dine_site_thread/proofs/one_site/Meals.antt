-- What a diner did goes on by one meal.
use Rattle.std.proofs.Common.{◌≡◌, ℕ, zero, suc, ◌+◌, Bool, true, false, not, cond, List, [], ◌∷◌, ◌++◌, refl, sym, ◌∙◌, ap, arith, append_assoc, append-nil}
use Rattle.std.proofs.lemmas.List.Elements.{All-nil, All-push}
use Rattle.std.proofs.lemmas.List.{map-append}
use Rattle.std.proofs.lemmas.List.Sums.{sum_by-append}
use Rattle.dine_token.specs.Lawful.{count_from}
use Rattle.dine_site_thread.specs.declared.diner.Call.{Call}
use Rattle.dine_site_thread.specs.Diners.{HasEaten, failed_in}

count_from-push : (first n : ℕ) → count_from first n ++ (first + n) ∷ [] ≡ count_from first (suc n)
count_from-push first zero = let e : first + 0 ≡ first = omega arith in ap (λ (k : ℕ). k ∷ []) e
count_from-push first (suc n) =
    let e : first + suc n ≡ first + 1 + n = omega arith in
    ap (λ (l : List ℕ). first ∷ l) (ap (λ (k : ℕ). count_from (first + 1) n ++ k ∷ []) e ∙ count_from-push (first + 1) n)

-- one more call failed, or none
abbrev pub failed_by : Bool → ℕ
failed_by ok = cond ok 0 1

one_failed : (ok : Bool) → 0 + cond (not ok) 1 0 ≡ failed_by ok
one_failed true = refl
one_failed false = refl

failed_in-push : (xs : List Call) (call : Call) → failed_in (xs ++ call ∷ []) ≡ failed_in xs + failed_by call.ok
failed_in-push xs call = sum_by-append (λ (c : Call). cond (not c.ok) 1 0) xs (call ∷ []) ∙ ap (λ (n : ℕ). failed_in xs + n) (one_failed call.ok)

module _ {D : Type 0} (calls : D → List Call) (marks : D → List Bool) (fits : List Bool → ℕ → Bool → Bool) where
  -- before the first meal
  pub eaten_nothing : (diner : D) → HasEaten calls marks fits 0 0 diner diner
  eaten_nothing diner = record {
    added = [];
    called = sym (append-nil (calls diner));
    in_order = refl;
    answers = All-nil (λ (call : Call). fits (marks diner) call.k call.ok ≡ true);
    failures = refl;
    marked = refl;
  }

  pub eaten_more : (ate failed k new_ate new_failed : ℕ) (first old new : D) (ok : Bool) → HasEaten calls marks fits ate failed first old
      → k ≡ ate + 1 → new_ate ≡ ate + 1 → new_failed ≡ failed + failed_by ok
      → calls new ≡ calls old ++ record { k = k; ok = ok } ∷ [] → fits (marks old) k ok ≡ true → marks new ≡ marks old
      → HasEaten calls marks fits new_ate new_failed first new
  eaten_more ate failed k new_ate new_failed first old new ok eaten k_is ate_is failed_is called fit marked =
      let call : Call = record { k = k; ok = ok } in
      let order : k ≡ 1 + ate = omega (arith, k_is) in
      let count : suc ate ≡ new_ate = omega (arith, ate_is) in
      record {
        added = eaten.added ++ call ∷ [];
        called = called ∙ ap (λ (l : List Call). l ++ call ∷ []) eaten.called ∙ append_assoc (calls first) eaten.added (call ∷ []);
        in_order = map-append (λ (c : Call). c.k) eaten.added (call ∷ []) ∙ ap (λ (l : List ℕ). l ++ k ∷ []) eaten.in_order ∙ ap (λ (n : ℕ). count_from 1 ate ++ n ∷ []) order ∙ count_from-push 1 ate ∙ ap (count_from 1) count;
        answers = All-push (λ (c : Call). fits (marks first) c.k c.ok ≡ true) eaten.added call eaten.answers
            (ap (λ (m : List Bool). fits m k ok) (sym eaten.marked) ∙ fit);
        failures = failed_in-push eaten.added call ∙ ap (λ (n : ℕ). n + failed_by ok) eaten.failures ∙ sym failed_is;
        marked = marked ∙ eaten.marked;
      }

  pub eaten_same : (ate failed ate' failed' : ℕ) (first diner diner' : D) → HasEaten calls marks fits ate failed first diner → ate' ≡ ate → failed' ≡ failed → diner' ≡ diner
      → HasEaten calls marks fits ate' failed' first diner'
  eaten_same ate failed ate' failed' first diner diner' eaten a f d = record {
    added = eaten.added;
    called = ap calls d ∙ eaten.called;
    in_order = eaten.in_order ∙ ap (count_from 1) (sym a);
    answers = eaten.answers;
    failures = eaten.failures ∙ sym f;
    marked = ap marks d ∙ eaten.marked;
  }
