-- The periods and the counts in the contents of a fork stay those of its log.
use Rattle.std.proofs.Common.{◌≡◌, ◌⊎◌, ℕ, ◌+◌, ◌-◌, ◌<◌, ◌≤◌, true, false, List, [], ◌∷◌, ◌++◌, length, get_or, set, sym, ◌∙◌, ap, subst, inl, inr, arith, vec_capacity}
use Rattle.dine_token.specs.declared.limits.TheConstants.{MAX_JOBS}
use Rattle.dine_token.specs.declared.log_entry.Entry.{Entry}
use Rattle.dine_token.specs.declared.log_entry.Entry.TheVariants.{Meal, Move}
use Rattle.dine_token.specs.declared.act.Act.{Act}
use Rattle.dine_token.specs.declared.fork.Contents.{Contents}
use Rattle.dine_token.specs.Values.{IsAct}
use Rattle.dine_token.specs.declared.log_period.Period.{Period}
use Rattle.dine_token.specs.Log.{is_dirty, location_of, meals_of}
use Rattle.dine_token.specs.Lawful.{IsLawful}
use Rattle.dine_token.specs.Periods.{periods_of, entries_of}
use Rattle.dine_token.specs.Fork.{SeenFork, IsFork, MayMove, MayEat, after_move, after_meal}
use Rattle.dine_token.specs.private.Fields.{seen_contents, MatchesLog}
use Rattle.dine_token.proofs.shared.Logs.{is_dirty-push_meal, is_dirty-push_move, location_of-push_meal, location_of-push_move, meals_of-push_own, meals_of-push_other, meals_of-push_move}
use Rattle.dine_token.proofs.shared.Lawfulness.{IsLawful-none}
use Rattle.dine_token.proofs.Periods.{period, length-periods_of, one_more, last_one_more, last_one_more-append, set-last, periods_of-push_move, periods_of-push_meal, entries_of-opened, entries_of-one_more}
use Rattle.dine_token.proofs.shared.Forks.{IsFork-after_move, IsFork-after_meal, IsEnd-location, fork_has_periods}

-- a fork that was just opened
pub opened_matches : (fork : Contents) → fork.periods.items ≡ period fork.lower 1 0 ∷ [] → fork.lower < fork.higher → fork.lower_due ≤ MAX_JOBS → fork.higher_due ≤ MAX_JOBS
    → fork.location ≡ fork.lower → fork.dirty ≡ true → fork.lower_meals ≡ 0 → fork.higher_meals ≡ 0 → fork.lower_due + fork.higher_due + 1 ≤ vec_capacity fork.periods
    → fork.value ≤ 1000000 → MatchesLog fork
opened_matches fork is ordered lower_due higher_due there dirty lower_none higher_none capacity small =
    let none : [] ≡ entries_of fork.periods.items = sym (ap entries_of is) in
    let ends = (seen_contents fork).ends in
    let due = (seen_contents fork).due in
    let P : List Entry → Type 0 = λ l. IsLawful ends due l in
    record {
      proper = record { ordered = ordered; lower_due = lower_due; higher_due = higher_due; lawful = subst P none (IsLawful-none ends due); bounded = omega (arith, small) };
      periods = is ∙ ap (periods_of fork.lower) none;
      location = there ∙ ap (location_of fork.lower) none;
      dirty = dirty ∙ ap is_dirty none;
      lower_meals = lower_none ∙ ap (meals_of fork.lower) none;
      higher_meals = higher_none ∙ ap (meals_of fork.higher) none;
      capacity = capacity;
    }

-- a period that a Move opens adds the Move to the log
pub log_moved : (fork : Contents) (to first : ℕ) → MatchesLog fork → entries_of (fork.periods.items ++ period to first 0 ∷ []) ≡ entries_of fork.periods.items ++ Move to ∷ []
log_moved fork to first contents =
    let parts = fork_has_periods (seen_contents fork) contents.proper in
    let is = contents.periods ∙ parts.is in
    ap (λ (l : List Period). entries_of (l ++ period to first 0 ∷ [])) is ∙ entries_of-opened parts.front parts.last to first
    ∙ ap (λ (l : List Period). entries_of l ++ Move to ∷ []) (sym is)

-- the last period got one more
more_items : (items old : List Period) (n : ℕ) (last : Period) → items ≡ old → last ≡ get_or items n last → n + 1 ≡ length old → set items n (one_more last) ≡ last_one_more old
more_items items old n last same is at =
    ap (λ (p : Period). set items n (one_more p)) is ∙ set-last items n last (at ∙ ap length (sym same)) ∙ ap last_one_more same

-- one more in the last period adds the meal to the log
log_eaten : (fork : Contents) (site k : ℕ) → MatchesLog fork → MayEat site k (seen_contents fork) → entries_of (last_one_more fork.periods.items) ≡ entries_of fork.periods.items ++ Meal site k ∷ []
log_eaten fork site k contents may =
    let parts = fork_has_periods (seen_contents fork) contents.proper in
    let is = contents.periods ∙ parts.is in
    let eater : parts.last.site ≡ site = parts.here ∙ may.held in
    let number : parts.last.first + parts.last.count ≡ k = parts.next ∙ ap (λ (e : ℕ). meals_of e (seen_contents fork).log + 1) eater ∙ may.next in
    ap (λ (l : List Period). entries_of (last_one_more l)) is ∙ ap entries_of (last_one_more-append parts.front parts.last) ∙ entries_of-one_more parts.front parts.last
    ∙ ap (λ (l : List Period). entries_of l ++ Meal parts.last.site (parts.last.first + parts.last.count) ∷ []) (sym is)
    ∙ ap (λ (e : ℕ). entries_of fork.periods.items ++ Meal e (parts.last.first + parts.last.count) ∷ []) eater ∙ ap (λ (j : ℕ). entries_of fork.periods.items ++ Meal site j ∷ []) number

-- a meal is one more of the last period in the contents of a fork, and adds the meal to the log
pub items_eaten : (fork : Contents) (items : List Period) (len : ℕ) (last : Period) (site k : ℕ) → MatchesLog fork → MayEat site k (seen_contents fork) → items ≡ fork.periods.items → last ≡ get_or items (len - 1) last → len ≡ length items
    → (set items (len - 1) (one_more last) ≡ last_one_more fork.periods.items) × (entries_of (set items (len - 1) (one_more last)) ≡ entries_of fork.periods.items ++ Meal site k ∷ [])
items_eaten fork items len last site k contents may same is count =
    let some : len - 1 + 1 ≡ length fork.periods.items = omega (arith, length-periods_of (seen_contents fork).ends.0 (seen_contents fork).log, ap length contents.periods, ap length same, count) in
    let more = more_items items fork.periods.items (len - 1) last same is some in
    (more, ap entries_of more ∙ log_eaten fork site k contents may)

-- the fork moved
pub moved_matches : (old new : Contents) (to : ℕ) → MatchesLog old → MayMove to (seen_contents old) → seen_contents new ≡ after_move to (seen_contents old)
    → new.location ≡ to → new.dirty ≡ false → new.lower_meals ≡ old.lower_meals → new.higher_meals ≡ old.higher_meals → new.periods.items ≡ old.periods.items ++ period to (meals_of to (seen_contents old).log + 1) 0 ∷ [] → vec_capacity new.periods ≡ vec_capacity old.periods
    → MatchesLog new
moved_matches old new to contents may change there clean lower_same higher_same opened same_room =
    let log_is : entries_of new.periods.items ≡ entries_of old.periods.items ++ Move to ∷ [] = ap (λ (f : SeenFork). f.log) change in
    let lower_is : new.lower ≡ old.lower = ap (λ (f : SeenFork). f.ends.0) change in
    let higher_is : new.higher ≡ old.higher = ap (λ (f : SeenFork). f.ends.1) change in
    let lower_due_is : new.lower_due ≡ old.lower_due = ap (λ (f : SeenFork). f.due.0) change in
    let higher_due_is : new.higher_due ≡ old.higher_due = ap (λ (f : SeenFork). f.due.1) change in
    record {
      proper = subst IsFork (sym change) (IsFork-after_move (seen_contents old) to contents.proper may);
      location = there ∙ sym (ap (λ (l : List Entry). location_of new.lower l) log_is ∙ location_of-push_move new.lower (entries_of old.periods.items) to);
      dirty = clean ∙ sym (ap is_dirty log_is ∙ is_dirty-push_move (entries_of old.periods.items) to);
      lower_meals = lower_same ∙ contents.lower_meals ∙ sym (at new.lower old.lower lower_is log_is);
      higher_meals = higher_same ∙ contents.higher_meals ∙ sym (at new.higher old.higher higher_is log_is);
      periods = opened ∙ ap (λ (l : List Period). l ++ period to (meals_of to (entries_of old.periods.items) + 1) 0 ∷ []) contents.periods ∙ sym (periods_of-push_move old.lower (entries_of old.periods.items) to)
          ∙ ap (λ (e : ℕ). periods_of e (entries_of old.periods.items ++ Move to ∷ [])) (sym lower_is) ∙ ap (periods_of new.lower) (sym log_is);
      capacity = omega (arith, contents.capacity);
    }
  where
    at : (new_end old_end : ℕ) → new_end ≡ old_end → entries_of new.periods.items ≡ entries_of old.periods.items ++ Move to ∷ [] → meals_of new_end (entries_of new.periods.items) ≡ meals_of old_end (entries_of old.periods.items)
    at new_end old_end end_is log_is = ap (λ (l : List Entry). meals_of new_end l) log_is ∙ ap (λ (e : ℕ). meals_of e (entries_of old.periods.items ++ Move to ∷ [])) end_is ∙ meals_of-push_move old_end (entries_of old.periods.items) to

-- the fork was eaten with, by one end or the other
pub eaten_matches : (old new : Contents) (site k : ℕ) (act : Act) → MatchesLog old → MayEat site k (seen_contents old) → IsAct act → seen_contents new ≡ after_meal site k act (seen_contents old)
    → new.location ≡ old.location → new.dirty ≡ true → new.periods.items ≡ last_one_more old.periods.items → vec_capacity new.periods ≡ vec_capacity old.periods
    → ((site ≡ old.lower) × (new.lower_meals ≡ k) × (new.higher_meals ≡ old.higher_meals)) ⊎ ((site ≡ old.lower → ⊥) × (new.lower_meals ≡ old.lower_meals) × (new.higher_meals ≡ k))
    → MatchesLog new
eaten_matches old new site k act contents may small change there dirty more same_room which =
    record {
      proper = subst IsFork (sym change) (IsFork-after_meal (seen_contents old) site k act contents.proper may small);
      location = there ∙ contents.location ∙ sym (ap (λ (l : List Entry). location_of new.lower l) log_is ∙ location_of-push_meal new.lower (entries_of old.periods.items) site k ∙ ap (λ (e : ℕ). location_of e (entries_of old.periods.items)) lower_is);
      dirty = dirty ∙ sym (ap is_dirty log_is ∙ is_dirty-push_meal (entries_of old.periods.items) site k);
      lower_meals = elim which [
        | inl w ↦ w.1 ∙ own old.lower new.lower lower_is w.0
        | inr w ↦ w.1 ∙ contents.lower_meals ∙ other old.lower new.lower lower_is w.0
      ];
      higher_meals = elim which [
        | inl w ↦ w.2 ∙ contents.higher_meals ∙ other old.higher new.higher higher_is (λ e. omega (arith, contents.proper.ordered))
        | inr w ↦ w.2 ∙ own old.higher new.higher higher_is (at_higher w.0)
      ];
      periods = more ∙ ap last_one_more contents.periods ∙ sym (periods_of-push_meal old.lower (entries_of old.periods.items) site k)
          ∙ ap (λ (e : ℕ). periods_of e (entries_of old.periods.items ++ Meal site k ∷ [])) (sym lower_is) ∙ ap (periods_of new.lower) (sym log_is);
      capacity = omega (arith, contents.capacity, lower_due_is, higher_due_is);
    }
  where
    log_is : entries_of new.periods.items ≡ entries_of old.periods.items ++ Meal site k ∷ []
    log_is = ap (λ (f : SeenFork). f.log) change

    lower_is : new.lower ≡ old.lower
    lower_is = ap (λ (f : SeenFork). f.ends.0) change

    higher_is : new.higher ≡ old.higher
    higher_is = ap (λ (f : SeenFork). f.ends.1) change

    lower_due_is : new.lower_due ≡ old.lower_due
    lower_due_is = ap (λ (f : SeenFork). f.due.0) change

    higher_due_is : new.higher_due ≡ old.higher_due
    higher_due_is = ap (λ (f : SeenFork). f.due.1) change

    after : (old_end new_end : ℕ) → new_end ≡ old_end → meals_of new_end (entries_of new.periods.items) ≡ meals_of old_end (entries_of old.periods.items ++ Meal site k ∷ [])
    after old_end new_end end_is = ap (λ (l : List Entry). meals_of new_end l) log_is ∙ ap (λ (e : ℕ). meals_of e (entries_of old.periods.items ++ Meal site k ∷ [])) end_is

    own : (old_end new_end : ℕ) → new_end ≡ old_end → site ≡ old_end → k ≡ meals_of new_end (entries_of new.periods.items)
    own old_end new_end end_is same =
        let P : ℕ → Type 0 = λ e. k ≡ meals_of e (entries_of old.periods.items ++ Meal site k ∷ []) in
        subst P same (sym may.next ∙ sym (meals_of-push_own site (entries_of old.periods.items) k)) ∙ sym (after old_end new_end end_is)

    other : (old_end new_end : ℕ) → new_end ≡ old_end → (site ≡ old_end → ⊥) → meals_of old_end (entries_of old.periods.items) ≡ meals_of new_end (entries_of new.periods.items)
    other old_end new_end end_is differs = sym (after old_end new_end end_is ∙ meals_of-push_other old_end site (entries_of old.periods.items) k differs)

    at_higher : (site ≡ old.lower → ⊥) → site ≡ old.higher
    at_higher not_lower = elim (IsEnd-location (seen_contents old) contents.proper) [
      | inl here ↦ absurd (not_lower (sym may.held ∙ here))
      | inr here ↦ sym may.held ∙ here
    ]
