-- Runs that go on end, and there are such runs.
use Rattle.std.proofs.Common.{◌≡◌, ◌⊎◌, ℕ, zero, suc, ◌+◌, ◌*◌, ◌<◌, ◌≤◌, false, List, [], ◌∷◌, ◌++◌, slice_get, Option, Some, None, is_some, refl, sym, ◌∙◌, ap, subst, inl, inr, arith}
use Rattle.std.proofs.lemmas.Bool.{true≢false}
use Rattle.dine_graph.specs.Plan.{SeenPlan, IsPlan, site_count}
use Rattle.dine_rules.specs.declared.events.Event.{Event}
use Rattle.dine_rules.specs.Bound.{bound_of}
use Rattle.dine_rules.specs.World.{WorldState, world_after}
use Rattle.dine_rules.proofs.shared.counting.Listed.{listed}
use Rattle.dine_rules.proofs.shared.ends_of_runs.Complete.{complete_is_stuck}
use Rattle.dine_waking.specs.Runs.{ByActing, ByDoorbell, ByHearing, ByRinging, BySleeping, ByTaking, ByWaking, GoesOn, GoesOnForever, RunHasEnded, IsStuck, LeadsBySteps, HasToRing, Run, RunStep, Sleeps, HasToTake, Thread, ThreadStep, HasToWake, start_run, thread_of}
use Rattle.dine_waking.proofs.Bells.{RunKeeps}
use Rattle.dine_waking.proofs.Bounded.{LeadsToEnd, leads_then, reached_keeps, run_ends, steps_bounded, stuck_has_ended}

-- ---- a run that has ended is stuck

module _ (plan : SeenPlan) (is_plan : IsPlan plan) (run : Run) (keeps : RunKeeps plan run) (ended : RunHasEnded plan run) (new : Run) (s : ℕ) (is_site : s < site_count plan) where
  awake : (thread_of run s).doing ≡ GoesOn
  awake = ap (λ (thread : Thread). thread.doing) (ended.awake s is_site)

  no_event : (e : Event) → world_after plan run.world e ≡ Some new.world → ⊥
  no_event e h =
      let w = listed plan keeps.events run.world e is_plan keeps.reached (ap (λ (o : Option WorldState). is_some o) h) in
      let none : None ≡ Some e = ap (λ (events : List Event). slice_get events w.0) (sym (complete_is_stuck plan keeps.events run.world is_plan keeps.reached ended.complete)) ∙ w.1 in
      cc

  no_step : ThreadStep plan s run new → ⊥
  no_step (ByActing a) = no_event (record { site = s; kind = a.kind }) a.world
  no_step (ByRinging r) = let e : GoesOn ≡ HasToRing r.i r.kind = sym awake ∙ r.rings in cc
  no_step (ByWaking h) = let e : GoesOn ≡ HasToWake h.i = sym awake ∙ h.wakes in cc
  no_step (ByHearing h) = none_there h.front (sym (ap (λ (thread : Thread). thread.bell) (ended.awake s is_site)) ∙ h.bell)
    where
      none_there : (front : List ℕ) → [] ≡ front ++ h.i ∷ h.rest → ⊥
      none_there [] is = let e : [] ≡ h.i ∷ h.rest = is in cc
      none_there (j ∷ front) is = let e : [] ≡ j ∷ (front ++ h.i ∷ h.rest) = is in cc
  no_step (ByTaking t) = let e : GoesOn ≡ HasToTake t.i = sym awake ∙ t.takes in cc
  no_step (BySleeping f) = true≢false (sym (ended.finished s is_site) ∙ f.unfinished)
  no_step (ByDoorbell d) = let e : GoesOn ≡ Sleeps d.wants = sym awake ∙ d.sleeps in cc

pub ended_is_stuck : (plan : SeenPlan) (is_plan : IsPlan plan) (run : Run) (keeps : RunKeeps plan run) → RunHasEnded plan run → IsStuck plan run
ended_is_stuck plan is_plan run keeps ended new one = no_step plan is_plan run keeps ended new one.site one.is_site one.step

-- ---- the moments of a run

module _ (plan : SeenPlan) (is_plan : IsPlan plan) (moments : ℕ → Run) (on : GoesOnForever plan moments) where
  -- at a turn up to which steps were done
  ends_within : (more turn : ℕ) → LeadsBySteps plan turn (start_run plan) (moments turn) → 4 * bound_of plan + site_count plan ≤ turn + more
      → (end : ℕ) × (end ≤ 4 * bound_of plan + site_count plan) × RunHasEnded plan (moments end)
  ends_within zero turn leads enough = elim (on.turns turn) [
    | inl step ↦ absurd (omega (arith, steps_bounded plan is_plan (suc turn) (moments (suc turn)) (leads_then plan turn (start_run plan) (moments turn) (moments (suc turn)) leads step)))
    | inr stuck ↦ (turn, steps_bounded plan is_plan turn (moments turn) leads, stuck_has_ended plan is_plan turn (moments turn) leads stuck)
  ]
  ends_within (suc more) turn leads enough = elim (on.turns turn) [
    | inl step ↦ ends_within more (suc turn) (leads_then plan turn (start_run plan) (moments turn) (moments (suc turn)) leads step) (omega arith)
    | inr stuck ↦ (turn, steps_bounded plan is_plan turn (moments turn) leads, stuck_has_ended plan is_plan turn (moments turn) leads stuck)
  ]

  pub going_on_ends : (end : ℕ) × (end ≤ 4 * bound_of plan + site_count plan) × RunHasEnded plan (moments end)
  going_on_ends = ends_within (4 * bound_of plan + site_count plan) 0 (sym on.starts) (omega arith)

-- ---- there is such a run

-- the moments to which steps lead, and then the last one
moment : (plan : SeenPlan) (n : ℕ) (old new : Run) → LeadsBySteps plan n old new → ℕ → Run
moment plan zero old new same turn = old
moment plan (suc n) old new w zero = old
moment plan (suc n) old new w (suc turn) = moment plan n w.0 new w.2 turn

first_moment : (plan : SeenPlan) (n : ℕ) (old new : Run) (leads : LeadsBySteps plan n old new) → moment plan n old new leads 0 ≡ old
unfolding moment
first_moment plan zero old new same = refl
first_moment plan (suc n) old new w = refl

each_turn : (plan : SeenPlan) (n : ℕ) (old new : Run) (leads : LeadsBySteps plan n old new) → IsStuck plan new → (turn : ℕ)
    → RunStep plan (moment plan n old new leads turn) (moment plan n old new leads (suc turn)) ⊎ IsStuck plan (moment plan n old new leads turn)
unfolding moment
each_turn plan zero old new same stuck turn = inr (subst (IsStuck plan) (sym same) stuck)
each_turn plan (suc n) old new w stuck zero = inl (subst (RunStep plan old) (sym (first_moment plan n w.0 new w.2)) w.1)
each_turn plan (suc n) old new w stuck (suc turn) = each_turn plan n w.0 new w.2 stuck turn

pub some_go_on : (plan : SeenPlan) → IsPlan plan → (moments : ℕ → Run) × GoesOnForever plan moments
some_go_on plan is_plan =
    let w : LeadsToEnd plan is_plan (start_run plan) = run_ends plan is_plan 0 (start_run plan) refl in
    let stuck : IsStuck plan w.end = ended_is_stuck plan is_plan w.end (reached_keeps plan is_plan false w.n w.end w.leads) w.ended in (
      moment plan w.n (start_run plan) w.end w.leads,
      record { starts = first_moment plan w.n (start_run plan) w.end w.leads; turns = each_turn plan w.n (start_run plan) w.end w.leads stuck },
    )
