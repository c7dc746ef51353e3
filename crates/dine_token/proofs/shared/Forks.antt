-- A fork stays a proper fork through what may be done with it.
use Rattle.std.proofs.Common.{[], ◌∷◌, ◌++◌, ◌≡◌, ℕ, ◌+◌, ◌*◌, ◌<◌, ◌≤◌, true, false, cond, eqb, List, length, get_or, sym, ◌∙◌, ap, subst, inl, inr, arith}
use Rattle.std.specs.List.{All}
use Rattle.std.proofs.lemmas.Bool.{eq-eqb, ne_eqb, cond-true, cond-false}
use Rattle.std.proofs.lemmas.List.{length_push, get_or_push}
use Rattle.dine_token.specs.declared.limits.TheConstants.{MAX_JOBS}
use Rattle.dine_token.specs.declared.act.Act.{Act}
use Rattle.dine_token.specs.declared.act.Act.TheVariants.{Add, Set}
use Rattle.dine_token.specs.declared.log_entry.Entry.TheVariants.{Meal}
use Rattle.dine_token.specs.declared.log_period.Period.{Period}
use Rattle.dine_token.specs.Values.{IsAct, value_after_act}
use Rattle.dine_token.specs.Log.{meals_of, moves_of}
use Rattle.dine_token.specs.Lawful.{due_at}
use Rattle.dine_token.specs.Periods.{periods_of}
use Rattle.dine_token.specs.Fork.{SeenFork, IsFork, IsEnd, MayMove, MayEat, location, other_end, after_move, after_meal}
use Rattle.dine_token.proofs.shared.Logs.{turn, meals_of-push_own, meals_of-push_other, meals_of-push_move}
use Rattle.dine_token.proofs.shared.Lawfulness.{at_an_end, IsLawful-push_meal, IsLawful-push_move}
use Rattle.dine_token.proofs.shared.Bounds.{length-lawful, moves-lawful, counted_lawful}
use Rattle.dine_token.proofs.Periods.{period, periods_of-push_move, length-periods_of}
use Rattle.dine_token.proofs.LawfulPeriods.{IsPlaced, HasPeriods, lawful_has_periods, periods-small}

-- a fork is at one of its ends
pub IsEnd-location : (fork : SeenFork) → IsFork fork → IsEnd fork (location fork)
IsEnd-location fork proper = elim (at_an_end fork.ends fork.due fork.log proper.lawful) [ inl w ↦ inl w.0 | inr w ↦ inr w.0 ]

-- the other end is the one whose turn it is
other_end-turn : (fork : SeenFork) → IsFork fork → other_end fork (location fork) ≡ turn fork.ends.1 fork.ends.0 (moves_of fork.log)
other_end-turn fork proper = elim (at_an_end fork.ends fork.due fork.log proper.lawful) [
  | inl w ↦ cond-true (eqb (location fork) fork.ends.0) fork.ends.1 fork.ends.0 (eq-eqb _ _ w.0) ∙ sym w.1
  | inr w ↦ cond-false (eqb (location fork) fork.ends.0) fork.ends.1 fork.ends.0 (ne_eqb _ _ (λ e. omega (arith, proper.ordered, w.0))) ∙ sym w.1
]

pub IsFork-after_move : (fork : SeenFork) (to : ℕ) → IsFork fork → MayMove to fork → IsFork (after_move to fork)
IsFork-after_move fork to proper may = record {
  ordered = proper.ordered;
  lower_due = proper.lower_due;
  higher_due = proper.higher_due;
  lawful = IsLawful-push_move fork.ends fork.due fork.log to proper.lawful may.dirty (may.to_other_end ∙ other_end-turn fork proper) may.hungry;
  bounded = omega (arith, proper.bounded, meals_of-push_move fork.ends.0 fork.log to, meals_of-push_move fork.ends.1 fork.log to);
}

-- a meal of the site where the fork is, is one more meal of both ends
both_meals : (fork : SeenFork) (site k : ℕ) → IsFork fork → MayEat site k fork
    → meals_of fork.ends.0 (fork.log ++ Meal site k ∷ []) + meals_of fork.ends.1 (fork.log ++ Meal site k ∷ []) ≡ meals_of fork.ends.0 fork.log + meals_of fork.ends.1 fork.log + 1
both_meals fork site k proper may = elim (IsEnd-location fork proper) [
  | inl w ↦ omega (arith, own fork.ends.0 (sym may.held ∙ w), meals_of-push_other fork.ends.1 site fork.log k (λ e. omega (arith, e, sym may.held ∙ w, proper.ordered)))
  | inr w ↦ omega (arith, own fork.ends.1 (sym may.held ∙ w), meals_of-push_other fork.ends.0 site fork.log k (λ e. omega (arith, e, sym may.held ∙ w, proper.ordered)))
]
  where
    own : (end : ℕ) → site ≡ end → meals_of end (fork.log ++ Meal site k ∷ []) ≡ meals_of end fork.log + 1
    own end same = ap (λ (e : ℕ). meals_of e (fork.log ++ Meal site k ∷ [])) (sym same) ∙ meals_of-push_own site fork.log k ∙ ap (λ (e : ℕ). meals_of e fork.log + 1) same

-- an act adds at most 1,000,000 to the bound of a value
pub applied_bounded : (act : Act) (value meals : ℕ) → IsAct act → value ≤ 1000000 * (meals + 1) → value_after_act act value ≤ 1000000 * (meals + 1 + 1)
applied_bounded (Add amount) value meals small within = omega (arith, small, within)
applied_bounded (Set amount) value meals small within = omega (arith, small)

pub IsFork-after_meal : (fork : SeenFork) (site k : ℕ) (act : Act) → IsFork fork → MayEat site k fork → IsAct act → IsFork (after_meal site k act fork)
IsFork-after_meal fork site k act proper may small = record {
  ordered = proper.ordered;
  lower_due = proper.lower_due;
  higher_due = proper.higher_due;
  lawful = IsLawful-push_meal fork.ends fork.due fork.log site k proper.ordered proper.lawful may.held may.next may.within;
  bounded = omega (arith, applied_bounded act fork.value (meals_of fork.ends.0 fork.log + meals_of fork.ends.1 fork.log) small proper.bounded, both_meals fork site k proper may);
}

-- a fork's log is no longer than twice the meals that are due
pub length-fork : (fork : SeenFork) → IsFork fork → length fork.log ≤ 2 * (fork.due.0 + fork.due.1)
length-fork fork proper = length-lawful fork.ends fork.due fork.log proper.ordered proper.lawful

-- its periods are one more than its Moves, at most one more than the meals that are due
pub length-periods : (fork : SeenFork) → IsFork fork → length (periods_of fork.ends.0 fork.log) ≤ fork.due.0 + fork.due.1 + 1
length-periods fork proper = omega (arith, length-periods_of fork.ends.0 fork.log, moves-lawful fork.ends fork.due fork.log proper.ordered proper.lawful)

-- so if a Move may be made, there is capacity for the period that it opens
pub room_to_move : (fork : SeenFork) (to : ℕ) → IsFork fork → MayMove to fork → length (periods_of fork.ends.0 fork.log) < fork.due.0 + fork.due.1 + 1
room_to_move fork to proper may =
    omega (arith, length-periods (after_move to fork) (IsFork-after_move fork to proper may), ap length (periods_of-push_move fork.ends.0 fork.log to), length_push (periods_of fork.ends.0 fork.log) (period to (meals_of to fork.log + 1) 0))

-- no end has more than MAX_JOBS meals due
pub due_small : (fork : SeenFork) (end : ℕ) → IsFork fork → due_at fork.ends fork.due end ≤ MAX_JOBS
due_small fork end proper = elim (eqb end fork.ends.0) as (λ b. cond b fork.due.0 fork.due.1 ≤ MAX_JOBS) [ true ↦ proper.lower_due | false ↦ proper.higher_due ]

-- what its periods are
pub fork_has_periods : (fork : SeenFork) → IsFork fork → HasPeriods fork.ends.0 MAX_JOBS fork.log
fork_has_periods fork proper = lawful_has_periods fork.ends fork.due MAX_JOBS proper.ordered proper.lower_due proper.higher_due fork.log proper.lawful

pub periods_small : (fork : SeenFork) → IsFork fork → All (λ (p : Period). p.first + p.count ≤ MAX_JOBS + 1) (periods_of fork.ends.0 fork.log)
periods_small fork proper =
    let parts = fork_has_periods fork proper in
    let at : (end : ℕ) → parts.last.site ≡ end → meals_of parts.last.site fork.log ≡ meals_of end fork.log = λ end same. ap (λ (e : ℕ). meals_of e fork.log) same in
    periods-small fork.ends.0 MAX_JOBS fork.log parts (elim (IsEnd-location fork proper) [
      | inl w ↦ omega (arith, at fork.ends.0 (parts.here ∙ w), proper.lawful.lower_within, proper.lower_due)
      | inr w ↦ omega (arith, at fork.ends.1 (parts.here ∙ w), proper.lawful.higher_within, proper.higher_due)
    ])

-- so if a meal may be eaten, it is one more of the last period, which then has at most MAX_JOBS
pub room_to_eat : (fork : SeenFork) (site k n : ℕ) (p : Period) → IsFork fork → MayEat site k fork → p ≡ get_or (periods_of fork.ends.0 fork.log) n p → n + 1 ≡ length (periods_of fork.ends.0 fork.log) → p.count + 1 ≤ MAX_JOBS
room_to_eat fork site k n p proper may at last_place =
    let parts = fork_has_periods fork proper in
    let front_size : length parts.front ≡ n = omega (arith, ap length parts.is, length_push parts.front parts.last, last_place) in
    let last : p ≡ parts.last = at ∙ ap (λ (l : List Period). get_or l n p) parts.is ∙ get_or_push parts.front parts.last p n front_size in
    let eater : meals_of parts.last.site fork.log ≡ meals_of site fork.log = ap (λ (e : ℕ). meals_of e fork.log) (parts.here ∙ may.held) in
    omega (arith, ap (λ (x : Period). x.count) last, parts.next, parts.from_one, eater, may.next, may.within, due_small fork site proper)

pub placed_fork : (fork : SeenFork) → IsFork fork → IsPlaced (periods_of fork.ends.0 fork.log)
placed_fork fork proper =
    let parts = fork_has_periods fork proper in
    let P : List Period → Type 0 = λ l. IsPlaced l in
    subst P (sym parts.is) parts.placed

-- the log has at most four times MAX_JOBS entries, and at most as many Moves
pub moves-fork : (fork : SeenFork) → IsFork fork → moves_of fork.log ≤ 4 * MAX_JOBS
moves-fork fork proper = omega (arith, length-fork fork proper, (counted_lawful fork.ends fork.due proper.ordered fork.log proper.lawful).all, proper.lower_due, proper.higher_due)
