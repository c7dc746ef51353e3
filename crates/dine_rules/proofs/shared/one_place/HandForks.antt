-- The fork in hand: what a meal makes of it, and what a letter that is taken.
use Rattle.std.proofs.Common.{◌≡◌, ℕ, ◌+◌, ◌≤◌, true, List, [], ◌∷◌, ◌++◌, sym, ◌∙◌, ap₂}
use Rattle.std.proofs.lemmas.Bool.{false≢true}
use Rattle.dine_token.specs.declared.log_entry.Entry.{Entry}
use Rattle.dine_token.specs.Fork.{SeenFork, after_meal}
use Rattle.dine_token.specs.Log.{meals_of}
use Rattle.dine_graph.specs.Plan.{SeenPlan, act_of, value_of}
use Rattle.dine_rules.specs.declared.letters.Letter.{Letter}
use Rattle.dine_rules.specs.declared.letters.Letter.TheVariants.{Fork, Request, Done, Close}
use Rattle.dine_rules.specs.Breach.{is_fork_of}
use Rattle.dine_rules.specs.Holdings.{with_meals_to}
use Rattle.dine_rules.specs.Letters.{last_log_or, last_value_or}
use Rattle.dine_rules.specs.Local.{Traffic}
use Rattle.dine_rules.specs.Steps.{fork_with, hand_fork}
use Rattle.dine_rules.specs.Values.{value_to}
use Rattle.dine_rules.proofs.shared.lists.Counting.{last_log_or-append}
use Rattle.dine_rules.proofs.shared.lists.Forks.{last_value_or-append}
use Rattle.dine_rules.proofs.shared.one_place.Hands.{hand-more, hand-same}
use Rattle.dine_rules.proofs.shared.one_place.Owned.{own_is}
use Rattle.dine_rules.proofs.shared.one_place.Values.{is_no_fork, value_to-more, value_to-same}

module _ (plan : SeenPlan) (s edge ate : ℕ) (t : Traffic) where
  -- a letter that leaves the last log and the last value leaves it
  by_last : (l : Letter) → last_log_or [] (t.taken ++ l ∷ []) ≡ last_log_or [] t.taken → last_value_or (value_of plan edge) (t.taken ++ l ∷ []) ≡ last_value_or (value_of plan edge) t.taken
      → hand_fork plan s edge ate (record t { taken = t.taken ++ l ∷ [] }) ≡ hand_fork plan s edge ate t
  by_last l same_log same_value = ap₂ (λ (log : List Entry) (value : ℕ). fork_with plan edge (with_meals_to s ate log) (value_to plan s ate log value)) same_log same_value

  -- the next meal of the site is written behind it, and its act done
  pub hand_fork-more : meals_of s (last_log_or [] t.taken) ≤ ate → after_meal s (ate + 1) (act_of plan s (ate + 1)) (hand_fork plan s edge ate t) ≡ hand_fork plan s edge (ate + 1) t
  hand_fork-more last = ap₂ (fork_with plan edge) (sym (hand-more s ate (last_log_or [] t.taken) last))
      (sym (value_to-more plan s ate (last_log_or [] t.taken) (last_value_or (value_of plan edge) t.taken) last))

  -- a fork of the edge that is taken, with as many meals as the site ate, is the one in hand
  pub hand_fork-taken : (fork : SeenFork) → is_fork_of plan edge fork ≡ true → meals_of s fork.log ≡ ate
      → hand_fork plan s edge ate (record t { taken = t.taken ++ Fork fork ∷ [] }) ≡ fork
  hand_fork-taken fork own all =
      ap₂ (λ (log : List Entry) (value : ℕ). fork_with plan edge (with_meals_to s ate log) (value_to plan s ate log value))
      (last_log_or-append [] t.taken (Fork fork ∷ [])) (last_value_or-append (value_of plan edge) t.taken (Fork fork ∷ []))
      ∙ ap₂ (fork_with plan edge) (hand-same s ate fork.log all) (value_to-same plan s ate fork.log fork.value all)
      ∙ sym (own_is plan edge fork own)

  -- a letter that is no Fork, and is taken, leaves it
  pub hand_fork-stays : (l : Letter) → is_no_fork l ≡ true → hand_fork plan s edge ate (record t { taken = t.taken ++ l ∷ [] }) ≡ hand_fork plan s edge ate t
  hand_fork-stays (Fork fork) none = absurd (false≢true none)
  hand_fork-stays (Request e) none = by_last (Request e) (last_log_or-append [] t.taken (Request e ∷ [])) (last_value_or-append (value_of plan edge) t.taken (Request e ∷ []))
  hand_fork-stays Done none = by_last Done (last_log_or-append [] t.taken (Done ∷ [])) (last_value_or-append (value_of plan edge) t.taken (Done ∷ []))
  hand_fork-stays Close none = by_last Close (last_log_or-append [] t.taken (Close ∷ [])) (last_value_or-append (value_of plan edge) t.taken (Close ∷ []))
