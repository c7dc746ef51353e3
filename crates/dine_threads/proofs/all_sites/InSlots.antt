-- Forks that are moved into the slots of their edges, and what is found there.
use Rattle.std.proofs.Common.{◌≡◌, ℕ, zero, suc, ◌+◌, ◌<◌, All, Bool, true, false, Option, Some, None, List, [], ◌∷◌, ◌++◌, length, map, set, slice_get, refl, sym, ap, ◌∙◌, subst, inl, inr, arith, length-set, if◌then◌else◌}
use Rattle.std.specs.List.{range_with_len}
use Rattle.std.proofs.lemmas.Bool.{cases_eq}
use Rattle.std.proofs.lemmas.List.Elements.{All-head, All-tail}
use Rattle.std.proofs.lemmas.Option.{none-some, same_Some}
use Rattle.dine_token.specs.Fork.{SeenFork}
use Rattle.dine_threads.specs.private.Collecting.{forks_found, in_slots}
use Rattle.dine_site_thread.proofs.shared.lists.Lists.{get-set_other, get-set_same}
use Rattle.dine_site_thread.proofs.shared.lists.Seen.{there_is}

-- an element of a list, somewhere
pub record IsIn {X : Type 0} (x : X) (xs : List X) : Type 0 where
  pub at : ℕ
  pub is : slice_get xs at ≡ Some x

pub in_first : {X : Type 0} (x : X) (xs ys : List X) → IsIn x xs → IsIn x (xs ++ ys)
in_first x xs ys h = record { at = h.at; is = stays xs h.at h.is }
  where
    stays : (zs : List _) (k : ℕ) → slice_get zs k ≡ Some x → slice_get (zs ++ ys) k ≡ Some x
    stays [] k is = absurd (none-some x is)
    stays (z ∷ zs) zero is = is
    stays (z ∷ zs) (suc k) is = stays zs k is

pub in_second : {X : Type 0} (x : X) (xs ys : List X) → IsIn x ys → IsIn x (xs ++ ys)
in_second x [] ys h = h
in_second x (a ∷ xs) ys h = let rest = in_second x xs ys h in record { at = suc rest.at; is = rest.is }

-- a further first element, or none
pub in_where : {X : Type 0} (b : Bool) (x y : X) (ys : List X) → IsIn x ys → IsIn x (if b then y ∷ ys else ys)
in_where true x y ys h = record { at = suc h.at; is = h.is }
in_where false x y ys h = h

pub in_here : {X : Type 0} (b : Bool) (y : X) (ys : List X) → b ≡ true → IsIn y (if b then y ∷ ys else ys)
in_here b y ys is = subst (λ c. IsIn y (if c then y ∷ ys else ys)) (sym is) (record { at = 0; is = refl })

module _ (e : ℕ) (f : SeenFork) where
  -- every fork of the edge is this one
  abbrev pub IsOnly : SeenFork → Type 0
  IsOnly fork = fork.edge ≡ e → fork ≡ f

  -- so it stays in the slot of the edge
  pub in_slots_stays : (forks : List SeenFork) (slots : List (Option SeenFork)) → All IsOnly forks → slice_get slots e ≡ Some (Some f) → slice_get (in_slots forks slots) e ≡ Some (Some f)
  in_slots_stays [] slots only at = at
  in_slots_stays (fork ∷ forks) slots only at =
      in_slots_stays forks (set slots fork.edge (Some fork)) (All-tail IsOnly fork forks only) (elim (cases_eq fork.edge e) [
        | inl same ↦ subst (λ k. slice_get (set slots fork.edge (Some fork)) k ≡ Some (Some f)) same
            (get-set_same slots fork.edge (Some f) (Some fork) (subst (λ k. slice_get slots k ≡ Some (Some f)) (sym same) at) ∙ ap (λ x. Some (Some x)) (All-head IsOnly fork forks only same))
        | inr differ ↦ get-set_other slots fork.edge e (Some fork) differ ∙ at
      ])

  -- and it stands there once it was in_slots
  pub in_slots_puts : (forks : List SeenFork) (slots : List (Option SeenFork)) (k : ℕ) → All IsOnly forks → slice_get forks k ≡ Some f → f.edge ≡ e → e < length slots → slice_get (in_slots forks slots) e ≡ Some (Some f)
  in_slots_puts [] slots k only at is within = absurd (none-some f at)
  in_slots_puts (fork ∷ forks) slots zero only at is within =
      let same : fork ≡ f = same_Some fork f at in
      let edge : fork.edge ≡ e = ap (λ (x : SeenFork). x.edge) same ∙ is in
      let there = there_is slots fork.edge (omega (arith, edge, within)) in
      in_slots_stays forks (set slots fork.edge (Some fork)) (All-tail IsOnly fork forks only)
      (subst (λ j. slice_get (set slots fork.edge (Some fork)) j ≡ Some (Some f)) edge (get-set_same slots fork.edge there.0 (Some fork) there.1 ∙ ap (λ x. Some (Some x)) same))
  in_slots_puts (fork ∷ forks) slots (suc k) only at is within =
      in_slots_puts forks (set slots fork.edge (Some fork)) k (All-tail IsOnly fork forks only) at is (omega (arith, within, length-set slots fork.edge (Some fork)))

-- in each slot stands the fork of its number, counted from `first`
pub record IsFilled (slots : List (Option SeenFork)) (first k : ℕ) : Type 0 where
  pub fork : SeenFork
  pub at : slice_get slots k ≡ Some (Some fork)
  pub edge : fork.edge ≡ first + k

-- what is found has the numbers in order
pub found_edges : (slots : List (Option SeenFork)) (first : ℕ) → ((k : ℕ) → k < length slots → IsFilled slots first k) → map (λ (fork : SeenFork). fork.edge) (forks_found slots) ≡ range_with_len first (length slots)
found_edges [] first filled = refl
found_edges (None ∷ slots) first filled = let here = filled 0 (omega arith) in absurd (none-some here.fork (same_Some None (Some here.fork) here.at))
found_edges (Some fork ∷ slots) first filled =
    let here = filled 0 (omega arith) in
    let same : fork ≡ here.fork = same_Some fork here.fork (same_Some (Some fork) (Some here.fork) here.at) in
    let edge : fork.edge ≡ first = ap (λ (x : SeenFork). x.edge) same ∙ here.edge ∙ omega arith in
    let rest = found_edges slots (first + 1) (λ k within. let later = filled (suc k) (omega (arith, within)) in record { fork = later.fork; at = later.at; edge = omega (arith, later.edge) }) in
    ap (λ n. n ∷ map (λ (x : SeenFork). x.edge) (forks_found slots)) edge ∙ ap (λ l. first ∷ l) rest

-- and is what stands in the slots
pub found_get : (slots : List (Option SeenFork)) (first k : ℕ) (fork : SeenFork) → ((j : ℕ) → j < length slots → IsFilled slots first j) → slice_get (forks_found slots) k ≡ Some fork → slice_get slots k ≡ Some (Some fork)
found_get [] first k fork filled at = absurd (none-some fork at)
found_get (None ∷ slots) first k fork filled at = let here = filled 0 (omega arith) in absurd (none-some here.fork (same_Some None (Some here.fork) here.at))
found_get (Some x ∷ slots) first zero fork filled at = ap Some at
found_get (Some x ∷ slots) first (suc k) fork filled at =
    found_get slots (first + 1) k fork (λ j within. let later = filled (suc j) (omega (arith, within)) in record { fork = later.fork; at = later.at; edge = omega (arith, later.edge) }) at
