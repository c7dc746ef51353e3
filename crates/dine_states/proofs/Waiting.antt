-- The edges that keep a hungry site from eating, and the cause at each.
use Rattle.std.proofs.Common.{◌≡◌, ℕ, zero, suc, ◌+◌, ◌≤◌, ◌==◌, ◌&&◌, ◌||◌, not, Bool, true, false, List, [], ◌∷◌, ◌++◌, filter, length, refl, sym, ◌∙◌, ap, arith, append-nil, Option, Some, None, MatchOption, slice_index_or}
use Rattle.std.specs.List.{range_with_len}
use Rattle.std.proofs.lemmas.Bool.{cond-false, cond-true, eqb-false, false≢true}
use Rattle.std.proofs.lemmas.List.Elements.{filter-append}
use Rattle.std.proofs.lemmas.List.FromFn.{length-range_with_len}
use Rattle.dine_graph.specs.declared.limits.TheConstants.{MAX_EDGES}
use Rattle.dine_graph.specs.Plan.{SeenPlan, IsPlan, edges_of, is_one_of}
use Rattle.dine_graph.proofs.shared.ListLemmas.{length-filter-le}
use Rattle.dine_states.proofs.Orders.{range_more}

-- at most one is one, or none
pub none_of : (n : ℕ) → n ≤ 1 → (n == 1) ≡ false → n ≡ 0
none_of n few is = omega (arith, few, eqb-false n 1 is)

pub zero_unless : (n : ℕ) → n ≤ 1 → not (n == 1) ≡ (n == 0)
zero_unless zero h = refl
zero_unless (suc zero) h = refl
zero_unless (suc (suc n)) h = absurd (omega (arith, h))

-- a fork here that is not ready is dirty and was asked for
pub owed : (fork token : ℕ) (dirty : Bool) → token ≤ 1 → (fork == 1) ≡ true → (fork == 1 && (not dirty || token == 0)) ≡ false → ((fork == 1 && token == 1) && dirty) ≡ true
owed fork zero dirty few here kept = absurd (false≢true (sym kept ∙ ap (λ (b : Bool). b && (not dirty || true)) here ∙ or_true (not dirty))) where
  or_true : (b : Bool) → (b || true) ≡ true
  or_true true = refl
  or_true false = refl
owed fork (suc zero) true few here kept = ap (λ (b : Bool). (b && true) && true) here
owed fork (suc zero) false few here kept = absurd (false≢true (sym kept ∙ ap (λ (b : Bool). b && true) here))
owed fork (suc (suc n)) dirty few here kept = absurd (omega (arith, few))

-- one place more
pub passes_more : (p : ℕ → Bool) (xs : List ℕ) (n : ℕ) → p n ≡ false → xs ≡ filter (λ i. not (p i)) (range_with_len 0 n) → xs ++ n ∷ [] ≡ filter (λ i. not (p i)) (range_with_len 0 (n + 1))
passes_more p xs n kept is =
    ap (λ (l : List ℕ). l ++ n ∷ []) is ∙ ap (λ (l : List ℕ). filter (λ i. not (p i)) (range_with_len 0 n) ++ l) (sym (cond-true (not (p n)) (n ∷ []) [] (ap not kept)))
    ∙ sym (filter-append (λ i. not (p i)) (range_with_len 0 n) (n ∷ [])) ∙ ap (filter (λ i. not (p i))) (sym (range_more n))

pub fails_more : (p : ℕ → Bool) (xs : List ℕ) (n : ℕ) → p n ≡ true → xs ≡ filter (λ i. not (p i)) (range_with_len 0 n) → xs ≡ filter (λ i. not (p i)) (range_with_len 0 (n + 1))
fails_more p xs n ready is =
    is ∙ sym (append-nil (filter (λ i. not (p i)) (range_with_len 0 n)))
    ∙ ap (λ (l : List ℕ). filter (λ i. not (p i)) (range_with_len 0 n) ++ l) (sym (cond-false (not (p n)) (n ∷ []) [] (ap not ready)))
    ∙ sym (filter-append (λ i. not (p i)) (range_with_len 0 n) (n ∷ [])) ∙ ap (filter (λ i. not (p i))) (sym (range_more n))

-- a site has few places
pub few_places : (plan : SeenPlan) (s : ℕ) → IsPlan plan → length (edges_of plan s) ≤ MAX_EDGES
few_places plan s is_plan =
    omega (arith, length-filter-le (λ (e : ℕ). is_one_of (slice_index_or plan.edges e (0, 0)) s) (range_with_len 0 (length plan.edges)), length-range_with_len 0 (length plan.edges), is_plan.few_edges)

-- an option that is not none is some
pub some_of : {A : Type 0} (o : Option A) (No : Type 0) (Yes : A → Type 0) → MatchOption o No Yes → (No → ⊥) → (x : A) × (o ≡ Some x)
some_of None No Yes h never = absurd (never h)
some_of (Some x) No Yes h never = (x, refl)
