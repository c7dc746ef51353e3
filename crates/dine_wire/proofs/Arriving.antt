-- A fork that is carried on: where it is, its meals, and what is reported of it.
use Rattle.std.proofs.Common.{◌≡◌, ◌⊎◌, ℕ, zero, suc, ◌+◌, ◌-◌, ◌<◌, ◌≤◌, ◌*◌, ◌^◌, true, List, [], ◌∷◌, ◌++◌, length, refl, sym, ◌∙◌, ap, subst, inl, inr, arith, append-nil}
use Rattle.std.proofs.lemmas.Bool.{eq-eqb, ne_eqb}
use Rattle.std.proofs.lemmas.List.{length-append}
use Rattle.dine_token.specs.declared.limits.TheConstants.{MAX_NUMBER}
use Rattle.dine_token.specs.declared.act.Act.{Act}
use Rattle.dine_token.specs.declared.act.Act.TheVariants.{Add, Set}
use Rattle.dine_token.specs.declared.log_entry.Entry.{Entry}
use Rattle.dine_token.specs.declared.log_entry.Entry.TheVariants.{Move}
use Rattle.dine_token.specs.Fork.{SeenFork, IsEnd, IsFork, MayEat, MayMove, after_meal, location, other_end}
use Rattle.dine_token.specs.Log.{destinations_of, is_dirty, meals_of, moves_of}
use Rattle.dine_token.specs.Lawful.{due_at}
use Rattle.dine_token.specs.Values.{IsAct, value_after_act}
use Rattle.dine_token.proofs.shared.Logs.{destinations_of-append, is_dirty-push_meal, location_of-push_move, meals_of-push_move, meals_of-push_other}
use Rattle.dine_token.proofs.shared.Forks.{IsEnd-location}
use Rattle.dine_graph.specs.Plan.{SeenPlan, IsPlan, act_of, hi_of, job_count, lo_of, site_count}
use Rattle.dine_rules.specs.Holdings.{meals_from}
use Rattle.dine_rules.specs.Values.{after_meals}
use Rattle.dine_rules.proofs.shared.one_place.Hands.{with_meals, with_meals-more, with_meals-none, meals_of-with_meals, location_of-with_meals}
use Rattle.dine_wire.specs.Arrivals.{IsOfPlan, MayCarryOn, carried_on, eaten_on, meals_here}
use Rattle.dine_wire.specs.Notes.{fork_note, moves_noted}
use Rattle.dine_wire.specs.declared.note.ForkNote.{ForkNote}

-- ---- the meals

pub after_meals-push : (plan : SeenPlan) (s first n value : ℕ) → after_meals plan s first (suc n) value ≡ value_after_act (act_of plan s (first + n)) (after_meals plan s first n value)
after_meals-push plan s first zero value = ap (λ (k : ℕ). value_after_act (act_of plan s k) value) (let e : first ≡ first + 0 = omega arith in e)
after_meals-push plan s first (suc n) value =
    after_meals-push plan s (first + 1) n (value_after_act (act_of plan s first) value)
    ∙ ap (λ (k : ℕ). value_after_act (act_of plan s k) (after_meals plan s first (suc n) value)) (let e : first + 1 + n ≡ first + suc n = omega arith in e)

-- no meal changes nothing
pub eaten_on-none : (plan : SeenPlan) (fork : SeenFork) → eaten_on plan fork 0 ≡ fork
eaten_on-none plan fork = ap (λ (log : List Entry). record fork { log = log }) (append-nil fork.log)

-- one meal more is the next one
pub eaten_on-more : (plan : SeenPlan) (fork : SeenFork) (n : ℕ)
    → after_meal (location fork) (meals_here fork + 1 + n) (act_of plan (location fork) (meals_here fork + 1 + n)) (eaten_on plan fork n) ≡ eaten_on plan fork (suc n)
eaten_on-more plan fork n =
    ap (λ (log : List Entry). record fork { log = log; value = value_after_act (act_of plan (location fork) (meals_here fork + 1 + n)) (after_meals plan (location fork) (meals_here fork + 1) n fork.value) })
    (sym (with_meals-more (location fork) n fork.log))
    ∙ ap (λ (value : ℕ). record fork { log = with_meals (location fork) (suc n) fork.log; value = value })
    (sym (after_meals-push plan (location fork) (meals_here fork + 1) n fork.value))

-- the meals leave the fork where it is
pub location-eaten_on : (plan : SeenPlan) (fork : SeenFork) (n : ℕ) → location (eaten_on plan fork n) ≡ location fork
location-eaten_on plan fork n = location_of-with_meals fork.ends.0 (location fork) n fork.log

pub meals_of-eaten_on : (plan : SeenPlan) (fork : SeenFork) (n : ℕ) → meals_of (location fork) (eaten_on plan fork n).log ≡ meals_here fork + n
meals_of-eaten_on plan fork n = meals_of-with_meals (location fork) n fork.log

-- the next meal may be eaten
pub MayEat-next : (plan : SeenPlan) (fork : SeenFork) (n total : ℕ) → MayCarryOn fork total → n < total → MayEat (location fork) (meals_here fork + 1 + n) (eaten_on plan fork n)
MayEat-next plan fork n total may less = record {
  held = location-eaten_on plan fork n;
  next = omega (arith, meals_of-eaten_on plan fork n);
  within = omega (arith, may.within);
}

-- other sites have no further meals
pub meals_of-others : (other s n : ℕ) (log : List Entry) → (s ≡ other → ⊥) → meals_of other (with_meals s n log) ≡ meals_of other log
meals_of-others other s zero log h = ap (meals_of other) (with_meals-none s log)
meals_of-others other s (suc n) log h =
    ap (meals_of other) (with_meals-more s n log) ∙ meals_of-push_other other s (with_meals s n log) (meals_of s log + 1 + n) h ∙ meals_of-others other s n log h

-- a fork that was eaten with, or is eaten with now, is dirty
pub dirty-eaten_on : (s n : ℕ) (log : List Entry) → (is_dirty log ≡ true) ⊎ (1 ≤ n) → is_dirty (with_meals s n log) ≡ true
dirty-eaten_on s zero log (inl dirty) = ap is_dirty (with_meals-none s log) ∙ dirty
dirty-eaten_on s zero log (inr some) = absurd (omega (arith, some))
dirty-eaten_on s (suc n) log h = ap is_dirty (with_meals-more s n log) ∙ is_dirty-push_meal (with_meals s n log) s (meals_of s log + 1 + n)

-- ---- the Move

-- the other end is another site, and the end other than it is this one
pub ends_differ : (fork : SeenFork) → IsFork fork → (s : ℕ) → IsEnd fork s → (s ≡ other_end fork s → ⊥) × (other_end fork (other_end fork s) ≡ s)
ends_differ fork is s (inl low) =
    let up : other_end fork s ≡ fork.ends.1 = rw (eq-eqb s fork.ends.0 low) in
    let back : other_end fork fork.ends.1 ≡ fork.ends.0 = rw (ne_eqb fork.ends.1 fork.ends.0 (λ e. omega (arith, is.ordered, e))) in
    ((λ e. omega (arith, is.ordered, e ∙ up, low)), ap (other_end fork) up ∙ back ∙ sym low)
ends_differ fork is s (inr high) =
    let down : other_end fork s ≡ fork.ends.0 = rw (ne_eqb s fork.ends.0 (λ e. omega (arith, is.ordered, e, high))) in
    let back : other_end fork fork.ends.0 ≡ fork.ends.1 = rw (eq-eqb fork.ends.0 fork.ends.0 refl) in
    ((λ e. omega (arith, is.ordered, e ∙ down, high)), ap (other_end fork) down ∙ back ∙ sym high)

destinations_of-meals : (s first n : ℕ) → destinations_of (meals_from s first n) ≡ []
destinations_of-meals s first zero = refl
destinations_of-meals s first (suc n) = destinations_of-meals s (first + 1) n

pub moves_of-moved : (s first n to : ℕ) (log : List Entry) → moves_of (log ++ meals_from s first n ++ Move to ∷ []) ≡ moves_of log + 1
moves_of-moved s first n to log =
    let meals : destinations_of (log ++ meals_from s first n) ≡ destinations_of log =
    destinations_of-append log (meals_from s first n) ∙ ap (λ (l : List ℕ). destinations_of log ++ l) (destinations_of-meals s first n) ∙ append-nil (destinations_of log) in
    ap length (destinations_of-append (log ++ meals_from s first n) (Move to ∷ []) ∙ ap (λ (l : List ℕ). l ++ to ∷ []) meals)
    ∙ length-append (destinations_of log) (to ∷ [])

-- the note of the fork that is carried on
pub fork_note-carried_on : (plan : SeenPlan) (fork : SeenFork) (n : ℕ) → IsFork fork → IsEnd fork (location fork)
    → fork_note (carried_on plan fork n) ≡ record { moves = moves_noted (moves_of fork.log + 1); ate = meals_here fork + n; value = after_meals plan (location fork) (meals_here fork + 1) n fork.value }
fork_note-carried_on plan fork n is end =
    let s = location fork in
    let to = other_end fork s in
    let log = with_meals s n fork.log in
    let there : location (carried_on plan fork n) ≡ to = location_of-push_move fork.ends.0 log to in
    let sender : other_end fork (location (carried_on plan fork n)) ≡ s = ap (other_end fork) there ∙ (ends_differ fork is s end).1 in
    let ate : meals_of (other_end fork (location (carried_on plan fork n))) (carried_on plan fork n).log ≡ meals_here fork + n =
    ap (λ (e : ℕ). meals_of e (carried_on plan fork n).log) sender ∙ meals_of-push_move s log to ∙ meals_of-with_meals s n fork.log in
    let value : ℕ = after_meals plan s (meals_here fork + 1) n fork.value in
    ap (λ (m : ℕ). record { moves = moves_noted m; ate = meals_of (other_end fork (location (carried_on plan fork n))) (carried_on plan fork n).log; value = value }) (moves_of-moved s (meals_here fork + 1) n to fork.log)
    ∙ ap (λ (a : ℕ). record { moves = moves_noted (moves_of fork.log + 1); ate = a; value = value }) ate

-- what the note of the fork that is carried on reports
pub record Reported (plan : SeenPlan) (fork : SeenFork) (n : ℕ) (note : ForkNote) : Type 0 where
  pub moves : note.moves ≡ moves_noted (moves_of fork.log + 1)
  pub ate : note.ate ≡ meals_here fork + n
  pub value : note.value ≡ after_meals plan (location fork) (meals_here fork + 1) n fork.value

pub reported : (plan : SeenPlan) (fork : SeenFork) (n : ℕ) (note : ForkNote) → IsFork fork → note ≡ fork_note (carried_on plan fork n) → Reported plan fork n note
reported plan fork n note is same =
    let e = same ∙ fork_note-carried_on plan fork n is (IsEnd-location fork is) in
    record { moves = ap (λ (x : ForkNote). x.moves) e; ate = ap (λ (x : ForkNote). x.ate) e; value = ap (λ (x : ForkNote). x.value) e }

-- ---- the Move after the meals

pub MayMove-eaten_on : (plan : SeenPlan) (fork : SeenFork) (n : ℕ) → IsFork fork → MayCarryOn fork n → MayMove (other_end fork (location fork)) (eaten_on plan fork n)
MayMove-eaten_on plan fork n is may = record {
  dirty = dirty-eaten_on (location fork) n fork.log may.used;
  to_other_end = sym (ap (other_end fork) (location-eaten_on plan fork n));
  hungry = subst (λ (m : ℕ). m < due_at fork.ends fork.due (other_end fork (location fork)))
      (sym (meals_of-others (other_end fork (location fork)) (location fork) n fork.log (ends_differ fork is (location fork) (IsEnd-location fork is)).0)) may.hungry;
}

-- ---- limits of the value and of the numbers

-- a value that has space for m - i meals has it for one less after one of them
pub act_fits : (act : Act) (value m i : ℕ) → IsAct act → i < m → value + MAX_NUMBER * (m - i) < 2 ^ 64 → value_after_act act value + MAX_NUMBER * (m - (i + 1)) < 2 ^ 64
act_fits (Add amount) value m i small less fits = omega (arith, small, less, fits)
act_fits (Set amount) value m i small less fits = omega (arith, small, less, fits)

-- an end of a fork of the plan is a site, and the meals due to it are its jobs
pub end_of_plan : (plan : SeenPlan) (fork : SeenFork) (s : ℕ) → IsPlan plan → IsFork fork → IsOfPlan plan fork → IsEnd fork s
    → (s < site_count plan) × (due_at fork.ends fork.due s ≡ job_count plan s)
end_of_plan plan fork s is_plan is of_plan (inl low) =
    let lo : s ≡ lo_of plan fork.edge = low ∙ ap (λ (e : ℕ × ℕ). e.0) of_plan.ends in
    let due : due_at fork.ends fork.due s ≡ fork.due.0 = rw (eq-eqb s fork.ends.0 low) in (
      omega (arith, lo, is_plan.ordered fork.edge of_plan.edge, is_plan.within fork.edge of_plan.edge),
      due ∙ ap (λ (d : ℕ × ℕ). d.0) of_plan.due ∙ ap (job_count plan) (sym lo),
    )
end_of_plan plan fork s is_plan is of_plan (inr high) =
    let hi : s ≡ hi_of plan fork.edge = high ∙ ap (λ (e : ℕ × ℕ). e.1) of_plan.ends in
    let due : due_at fork.ends fork.due s ≡ fork.due.1 = rw (ne_eqb s fork.ends.0 (λ e. omega (arith, is.ordered, e, high))) in (
      omega (arith, hi, is_plan.within fork.edge of_plan.edge),
      due ∙ ap (λ (d : ℕ × ℕ). d.1) of_plan.due ∙ ap (job_count plan) (sym hi),
    )
