-- A site that eats holds the fork of each of its places, and so no neighbour eats beside it.
use Rattle.std.proofs.Common.{◌≡◌, ℕ, ◌+◌, ◌-◌, ◌<◌, true, false, cond, ◌==◌, List, [], ◌∷◌, ◌++◌, length, get_or, slice_set, refl, sym, ◌∙◌, ap, subst, inl, inr, arith, zero-add}
use Rattle.std.proofs.lemmas.Bool.{false≢true, true≢false, and_parts, not-true, false_from_ne_true, cases_eq, eqb-true, ltb-true}
use Rattle.std.proofs.lemmas.List.{get_or-set_same, get_or-set_other, length-set}
use Rattle.dine_graph.specs.Plan.{SeenPlan, lo_of}
use Rattle.dine_rules.specs.declared.letters.Letter.{Letter}
use Rattle.dine_rules.specs.declared.letters.Letter.TheVariants as letter
use Rattle.dine_rules.specs.Letters.{forks_in}
use Rattle.dine_rules.specs.Local.{LocalState, Traffic, no_traffic, traffic_at, start_of, edge_at, is_eating}
use Rattle.dine_rules.specs.Holdings.{EatsWithAll, forks_held, fork_at}
use Rattle.dine_rules.specs.Steps.{Step, Give, Ask, Hungry, Begin, End, Quit, Done, Close, Break, Take, after, may, is_ready}
use Rattle.dine_rules.proofs.shared.lists.Counting.{none_is_not_one, forks_in-append}
use Rattle.dine_rules.proofs.shared.one_site.SiteSteps.{list_all-range, not_hungry_while_eating, not_thinking_while_eating}
use Rattle.dine_rules.proofs.shared.links.Joined.{Joined, one_fork}

-- nobody eats at the start
pub start_eats_with_all : (plan : SeenPlan) (s : ℕ) → EatsWithAll plan s (start_of plan s)
start_eats_with_all plan s h = absurd (false≢true h)

module _ (plan : SeenPlan) (s : ℕ) where
  -- the fork stays where another letter than a Fork is put
  put_keeps_fork : (edge : ℕ) (traffic : Traffic) (l : Letter) → forks_in (l ∷ []) ≡ 0 → forks_held plan s edge (record traffic { put = traffic.put ++ l ∷ [] }) ≡ forks_held plan s edge traffic
  put_keeps_fork edge traffic l none =
      let same : forks_in (traffic.put ++ l ∷ []) ≡ forks_in traffic.put = omega (arith, forks_in-append traffic.put (l ∷ [])) in
      ap (λ (n : ℕ). cond (lo_of plan edge == s) 1 0 + forks_in traffic.taken - n) same

  -- and where another letter is taken
  take_keeps_fork : (edge : ℕ) (traffic : Traffic) (l : Letter) → forks_in (l ∷ []) ≡ 0 → forks_held plan s edge (record traffic { taken = traffic.taken ++ l ∷ [] }) ≡ forks_held plan s edge traffic
  take_keeps_fork edge traffic l none =
      let same : forks_in (traffic.taken ++ l ∷ []) ≡ forks_in traffic.taken = omega (arith, forks_in-append traffic.taken (l ∷ [])) in
      ap (λ (n : ℕ). cond (lo_of plan edge == s) 1 0 + n - forks_in traffic.put) same

  -- one place changes, and keeps its fork
  changed_eats_with_all : (state : LocalState) (k : ℕ) (traffic : Traffic) → k < length state.traffic → forks_held plan s (edge_at plan s k) traffic ≡ fork_at plan s state k
      → EatsWithAll plan s state → EatsWithAll plan s (record state { traffic = slice_set state.traffic k traffic })
  changed_eats_with_all state k traffic within same eats eating i h =
      let all : (i : ℕ) → i < length state.traffic → fork_at plan s state i ≡ 1 = eats eating in
      elim (cases_eq i k) [
        | inl here ↦ subst (λ (x : ℕ). forks_held plan s (edge_at plan s x) (get_or (slice_set state.traffic k traffic) x no_traffic) ≡ 1) (sym here)
            (ap (forks_held plan s (edge_at plan s k)) (get_or-set_same state.traffic k traffic no_traffic within) ∙ same ∙ all k within)
        | inr other ↦ ap (forks_held plan s (edge_at plan s i)) (get_or-set_other state.traffic k i traffic no_traffic other) ∙ all i (omega (arith, length-set state.traffic k traffic))
      ]

  -- a fork is taken only where there is none, so not by one who eats
  fork_comes_awake : (state : LocalState) (k : ℕ) (new : LocalState) → k < length state.traffic → fork_at plan s state k ≡ 0 → new.phase ≡ state.phase → EatsWithAll plan s state → EatsWithAll plan s new
  fork_comes_awake state k new within none same eats eating =
      let one : fork_at plan s state k ≡ 1 = eats (ap is_eating (sym same) ∙ eating) k within in
      absurd (none_is_not_one (fork_at plan s state k) none one)

  -- each step, also a Break, leaves one who eats all forks
  pub step_eats_with_all : (state : LocalState) (step : Step) → EatsWithAll plan s state → may plan s state step ≡ true → EatsWithAll plan s (after plan s state step)
  step_eats_with_all state (Give k) eats h eating i within = absurd (true≢false (sym eating ∙ not-true (is_eating state.phase) (and_parts _ _ (and_parts _ _ (and_parts _ _ h).1).0).0))
  step_eats_with_all state (Ask k) eats h eating i within = absurd (not_hungry_while_eating state.phase eating (and_parts _ _ (and_parts _ _ (and_parts _ _ h).1).0).0)
  step_eats_with_all state Hungry eats h eating i within = absurd (false≢true eating)
  step_eats_with_all state Begin eats h eating i within =
      let ready : is_ready plan s state i ≡ true = ap (is_ready plan s state) (sym (zero-add i)) ∙ list_all-range (is_ready plan s state) 0 (length state.traffic) i (and_parts _ _ h).1 within in
      eqb-true (fork_at plan s state i) 1 (and_parts _ _ ready).0
  step_eats_with_all state (End failed) eats h eating i within = absurd (false≢true eating)
  step_eats_with_all state Quit eats h eating i within = absurd (not_thinking_while_eating state.phase eating (and_parts _ _ h).0)
  step_eats_with_all state (Done k) eats h eating i within = absurd (not_thinking_while_eating state.phase eating (and_parts _ _ (and_parts _ _ (and_parts _ _ h).1).0).0)
  step_eats_with_all state (Close k) eats h eating i within = changed_eats_with_all state k _ (ltb-true _ _ (and_parts _ _ h).0) (put_keeps_fork (edge_at plan s k) (traffic_at state k) letter.Close refl) eats eating i within
  step_eats_with_all state (Break k) eats h eating i within = changed_eats_with_all state k _ (ltb-true _ _ (and_parts _ _ h).0) (put_keeps_fork (edge_at plan s k) (traffic_at state k) letter.Close refl) eats eating i within
  step_eats_with_all state (Take k (letter.Fork fork)) eats h eating i within =
      let parts = and_parts _ _ h in
      let allowed = and_parts _ _ (and_parts _ _ parts.1).1 in
      let numbers = and_parts _ _ (and_parts _ _ (and_parts _ _ allowed.0).0).1 in
      fork_comes_awake state k (after plan s state (Take k (letter.Fork fork))) (ltb-true _ _ parts.0) (eqb-true (fork_at plan s state k) 0 numbers.0) refl eats eating i within
  step_eats_with_all state (Take k (letter.Request edge)) eats h eating i within = changed_eats_with_all state k _ (ltb-true _ _ (and_parts _ _ h).0) (take_keeps_fork (edge_at plan s k) (traffic_at state k) (letter.Request edge) refl) eats eating i within
  step_eats_with_all state (Take k letter.Done) eats h eating i within = changed_eats_with_all state k _ (ltb-true _ _ (and_parts _ _ h).0) (take_keeps_fork (edge_at plan s k) (traffic_at state k) letter.Done refl) eats eating i within
  step_eats_with_all state (Take k letter.Close) eats h eating i within = changed_eats_with_all state k _ (ltb-true _ _ (and_parts _ _ h).0) (take_keeps_fork (edge_at plan s k) (traffic_at state k) letter.Close refl) eats eating i within

-- two who eat hold two forks of the edge between them, but there is one
pub not_both : (plan : SeenPlan) (s i other j : ℕ) (near far : LocalState) (coming going : List Letter) → Joined plan s i other j near far coming going
    → EatsWithAll plan s near → EatsWithAll plan other far → is_eating near.phase ≡ true → is_eating far.phase ≡ false
not_both plan s i other j near far coming going ends eats eats_there eating = false_from_ne_true (is_eating far.phase) (λ both.
    two_in_one (fork_at plan s near i) (forks_in coming) (fork_at plan other far j) (forks_in going)
    (eats eating i ends.within) (eats_there both j ends.within_there) (one_fork plan s i other j near far coming going ends)) where
      two_in_one : (a b c d : ℕ) → a ≡ 1 → c ≡ 1 → a + b + (c + d) ≡ 1 → ⊥
      two_in_one a b c d one other all = omega arith
