-- The number of steps of a run.
use Rattle.std.proofs.Common.{◌≡◌, ℕ, zero, suc, ◌+◌, ◌*◌, ◌<◌, ◌≤◌, ◌||◌, Bool, true, false, List, [], ◌∷◌, ◌++◌, length, replicate, get_or, slice_set, sum_by, Some, refl, sym, ◌∙◌, ap, subst, inl, inr, arith, length-append, if◌then◌else◌}
use Rattle.std.proofs.lemmas.Bool.{true≢false}
use Rattle.std.proofs.lemmas.List.{get_or-set_other, length-set}
use Rattle.std.proofs.lemmas.List.Sums.{sum_by-cons, sum_by-set}
use Rattle.dine_graph.specs.Plan.{SeenPlan, IsPlan, site_count, edges_of}
use Rattle.dine_rules.specs.declared.events.Event.{Event}
use Rattle.dine_rules.specs.declared.events.EventKind.{EventKind}
use Rattle.dine_rules.specs.declared.events.EventKind.TheVariants as event
use Rattle.dine_rules.specs.declared.letters.LetterKind.{LetterKind}
use Rattle.dine_rules.specs.Bound.{bound_of, effects_of}
use Rattle.dine_rules.specs.Local.{edge_at, neighbour_at}
use Rattle.dine_rules.specs.Wants.{SeenWants, is_wanted, still_wanted}
use Rattle.dine_rules.specs.World.{place_of, start, state_of, world_after}
use Rattle.dine_rules.proofs.shared.counting.EffectBounds.{events_bounded}
use Rattle.dine_rules.proofs.shared.counting.Effects.{events_counted}
use Rattle.dine_rules.proofs.shared.links.Across.{across}
use Rattle.dine_rules.proofs.shared.links.WorldStreams.{events_then, neighbour_differs}
use Rattle.dine_rules.proofs.shared.one_place.Placed.{placed}
use Rattle.dine_site.specs.CoreWants.{wants_by_lists}
use Rattle.dine_waking.specs.Runs.{Acts, ByActing, ByDoorbell, ByHearing, ByRinging, BySleeping, ByTaking, ByWaking, Doing, FallsAsleep, GoesOn, RunHasEnded, HearsRing, LeadsBySteps, HasToRing, RingsBell, Run, RunStep, Sleeps, HasToTake, TakesLetter, Thread, ThreadStep, HasToWake, WakesThread, IsToBeWoken, after_ringing, doing_after, doing_rung, first_moment, fresh_thread, is_woken_by, thread_after_ring, start_run, thread_of}
use Rattle.dine_waking.proofs.Queues.{take_at}
use Rattle.dine_waking.proofs.Bells.{Fits, KeepsBell, RunKeeps, keeps_asleep, keeps_called, keeps_heard, keeps_taken, start_keeps}
use Rattle.dine_waking.proofs.Acting.{keeps_acted}
use Rattle.dine_waking.proofs.Waking.{keeps_rung, keeps_woken}
use Rattle.dine_waking.proofs.Progress.{step_or_end}

-- ---- the steps that a thread may do before the next event of its site

abbrev weight : Doing → ℕ
weight GoesOn = 1
weight (HasToRing i kind) = 4
weight (HasToWake i) = 3
weight (HasToTake i) = 0
weight (IsToBeWoken i) = 0
weight (Sleeps wants) = 0

abbrev weight_of : Thread → ℕ
weight_of thread = weight thread.doing

abbrev weights : List Thread → ℕ
weights = sum_by weight_of

weight_after : (kind : EventKind) → weight (doing_after kind) ≤ 4
weight_after (event.Take i) = omega arith
weight_after (event.Give i) = omega arith
weight_after event.End = omega arith
weight_after event.Begin = omega arith
weight_after event.Quit = omega arith
weight_after event.Hungry = omega arith
weight_after (event.Ask i) = omega arith
weight_after (event.Done i) = omega arith
weight_after (event.Close i) = omega arith

-- of a ringer and of the thread that it rings
weight_woken : (b : Bool) (i j : ℕ) (wants : SeenWants) → weight (after_ringing b i) + weight (if b then IsToBeWoken j else Sleeps wants) ≤ 3
weight_woken true i j wants = omega arith
weight_woken false i j wants = omega arith

weight_rung : (anyway : Bool) (i j : ℕ) (kind : LetterKind) (doing : Doing) → weight (after_ringing (is_woken_by anyway j kind doing) i) + weight (doing_rung anyway j kind doing) ≤ 3 + weight doing
weight_rung anyway i j kind GoesOn = omega arith
weight_rung anyway i j kind (HasToRing k l) = omega arith
weight_rung anyway i j kind (HasToWake k) = omega arith
weight_rung anyway i j kind (HasToTake k) = omega arith
weight_rung anyway i j kind (IsToBeWoken k) = omega arith
weight_rung anyway i j kind (Sleeps wants) = weight_woken (is_wanted wants j kind || anyway) i j (still_wanted wants kind)

-- a thread of the list changes
weights_set : (threads : List Thread) (s : ℕ) (thread : Thread) → s < length threads → weights (slice_set threads s thread) + weight_of (get_or threads s fresh_thread) ≡ weights threads + weight_of thread
weights_set threads s thread within = sum_by-set weight_of threads s thread fresh_thread within

-- ---- each step

module _ (plan : SeenPlan) (is_plan : IsPlan plan) (old new : Run) (keeps : RunKeeps plan old) (s : ℕ) (is_site : s < site_count plan) where
  has_thread : s < length old.threads
  has_thread = omega (arith, keeps.threads)

  -- the step counts, by the events that the world had
  abbrev Counts : Type 0
  Counts = 1 + weights new.threads + 4 * effects_of old.world ≤ weights old.threads + 4 * effects_of new.world

  one_event : (e : Event) → world_after plan old.world e ≡ Some new.world → effects_of new.world ≡ effects_of old.world + 1
  one_event e h = omega (
    arith,
    events_counted plan keeps.events old.world is_plan keeps.reached,
    events_counted plan (keeps.events ++ e ∷ []) new.world is_plan (events_then plan (start plan) old.world new.world keeps.events e keeps.reached h),
    length-append keeps.events (e ∷ []),
  )

  acted_counts : Acts plan s old new → Counts
  acted_counts a =
      let thread : Thread = record { doing = doing_after a.kind; bell = (thread_of old s).bell } in
      omega (arith, one_event (record { site = s; kind = a.kind }) a.world, ap weights a.threads, weights_set old.threads s thread has_thread, ap weight a.goes_on, weight_after a.kind)

  taken_counts : TakesLetter plan s old new → Counts
  taken_counts t =
      let thread : Thread = record { doing = GoesOn; bell = (thread_of old s).bell } in
      omega (arith, one_event (take_at s t.i) t.world, ap weights t.threads, weights_set old.threads s thread has_thread, ap weight t.takes)

  heard_counts : HearsRing plan s old new → Counts
  heard_counts h =
      let thread : Thread = record { doing = HasToTake h.i; bell = h.front ++ h.rest } in
      omega (arith, ap effects_of h.world, ap weights h.threads, weights_set old.threads s thread has_thread, ap weight h.goes_on)

  asleep_counts : FallsAsleep plan s old new → Counts
  asleep_counts h =
      let thread : Thread = record { doing = Sleeps (wants_by_lists plan s (state_of old.world s)); bell = (thread_of old s).bell } in
      omega (arith, ap effects_of h.world, ap weights h.threads, weights_set old.threads s thread has_thread, ap weight h.goes_on)

  rung_counts : RingsBell plan s old new → Counts
  rung_counts r =
      let keeps_here : KeepsBell plan old s = keeps.sites s is_site in
      let within : r.i < length (edges_of plan s) = subst (λ (d : Doing). Fits plan old.is_open s (state_of old.world s) keeps_here.rung_for d) r.rings keeps_here.fits in
      let there : ℕ = neighbour_at plan s r.i in
      let number : ℕ = place_of plan (neighbour_at plan s r.i) (edge_at plan s r.i) in
      let ringer : Thread = record { doing = after_ringing (is_woken_by r.anyway number r.kind (thread_of old there).doing) r.i; bell = (thread_of old s).bell } in
      let between : List Thread = slice_set old.threads s ringer in
      let sleeper : Thread = thread_after_ring r.anyway number r.kind (thread_of old there) in
      let has_sleeper : there < length between = omega (arith, keeps.threads, (across plan s r.i is_plan within).is_site, length-set old.threads s ringer) in
      let same : get_or between there fresh_thread ≡ thread_of old there = get_or-set_other old.threads s there ringer fresh_thread (neighbour_differs plan s r.i (placed plan s r.i is_plan within)) in
      omega (
        arith,
        ap effects_of r.world,
        ap weights r.threads,
        weights_set between there sleeper has_sleeper,
        ap weight_of same,
        weights_set old.threads s ringer has_thread,
        ap weight r.rings,
        weight_rung r.anyway r.i number r.kind (thread_of old there).doing,
      )

  woken_counts : WakesThread plan s old new → Counts
  woken_counts h =
      let keeps_here : KeepsBell plan old s = keeps.sites s is_site in
      let within : h.i < length (edges_of plan s) = subst (λ (d : Doing). Fits plan old.is_open s (state_of old.world s) keeps_here.rung_for d) h.wakes keeps_here.fits in
      let there : ℕ = neighbour_at plan s h.i in
      let waker : Thread = record { doing = GoesOn; bell = (thread_of old s).bell } in
      let between : List Thread = slice_set old.threads s waker in
      let awake : Thread = record { doing = GoesOn; bell = (thread_of old there).bell } in
      let has_sleeper : there < length between = omega (arith, keeps.threads, (across plan s h.i is_plan within).is_site, length-set old.threads s waker) in
      let same : get_or between there fresh_thread ≡ thread_of old there = get_or-set_other old.threads s there waker fresh_thread (neighbour_differs plan s h.i (placed plan s h.i is_plan within)) in
      omega (
        arith,
        ap effects_of h.world,
        ap weights h.threads,
        weights_set between there awake has_sleeper,
        ap weight_of same,
        ap weight h.woken,
        weights_set old.threads s waker has_thread,
        ap weight h.wakes,
      )

  -- if the run is not open
  step_counts : old.is_open ≡ false → ThreadStep plan s old new → Counts
  step_counts shut (ByActing a) = acted_counts a
  step_counts shut (ByRinging r) = rung_counts r
  step_counts shut (ByWaking h) = woken_counts h
  step_counts shut (ByHearing h) = heard_counts h
  step_counts shut (ByTaking t) = taken_counts t
  step_counts shut (BySleeping h) = asleep_counts h
  step_counts shut (ByDoorbell d) = absurd (true≢false (sym d.is_open ∙ shut))

  pub step_opens : ThreadStep plan s old new → new.is_open ≡ old.is_open
  step_opens (ByActing a) = a.as_open
  step_opens (ByRinging r) = r.as_open
  step_opens (ByWaking h) = h.as_open
  step_opens (ByHearing h) = h.as_open
  step_opens (ByTaking t) = t.as_open
  step_opens (BySleeping h) = h.as_open
  step_opens (ByDoorbell d) = d.as_open

  pub step_keeps : ThreadStep plan s old new → RunKeeps plan new
  step_keeps (ByActing a) = keeps_acted plan is_plan old new keeps s is_site a
  step_keeps (ByRinging r) = keeps_rung plan is_plan old new keeps s is_site r
  step_keeps (ByWaking h) = keeps_woken plan is_plan old new keeps s is_site h
  step_keeps (ByHearing h) = keeps_heard plan is_plan old new keeps s is_site h
  step_keeps (ByTaking t) = keeps_taken plan is_plan old new keeps s is_site t
  step_keeps (BySleeping h) = keeps_asleep plan is_plan old new keeps s is_site h
  step_keeps (ByDoorbell d) = keeps_called plan is_plan old new keeps s is_site d

-- ---- runs

-- the weights of threads at their start
fresh_weights : (n : ℕ) → weights (replicate n fresh_thread) ≡ n
fresh_weights zero = refl
fresh_weights (suc n) = omega (arith, sum_by-cons weight_of fresh_thread (replicate n fresh_thread), fresh_weights n)

-- one step more behind the others
pub leads_then : (plan : SeenPlan) (n : ℕ) (old between new : Run) → LeadsBySteps plan n old between → RunStep plan between new → LeadsBySteps plan (suc n) old new
leads_then plan zero old between new same more = (new, subst (λ (run : Run). RunStep plan run new) (sym same) more, refl)
leads_then plan (suc n) old between new w more = (w.0, w.1, leads_then plan n w.0 between new w.2 more)

module _ (plan : SeenPlan) (is_plan : IsPlan plan) where
  pub steps_keep : (n : ℕ) (old new : Run) → RunKeeps plan old → LeadsBySteps plan n old new → RunKeeps plan new
  steps_keep zero old new keeps same = subst (RunKeeps plan) same keeps
  steps_keep (suc n) old new keeps w = steps_keep n w.0 new (step_keeps plan is_plan old w.0 keeps w.1.site w.1.is_site w.1.step) w.2

  pub steps_open : (n : ℕ) (old new : Run) → RunKeeps plan old → LeadsBySteps plan n old new → new.is_open ≡ old.is_open
  steps_open zero old new keeps same = ap (λ (run : Run). run.is_open) (sym same)
  steps_open (suc n) old new keeps w = steps_open n w.0 new (step_keeps plan is_plan old w.0 keeps w.1.site w.1.is_site w.1.step) w.2
      ∙ step_opens plan is_plan old w.0 keeps w.1.site w.1.is_site w.1.step

  steps_count : (n : ℕ) (old new : Run) → RunKeeps plan old → old.is_open ≡ false → LeadsBySteps plan n old new → n + weights new.threads + 4 * effects_of old.world ≤ weights old.threads + 4 * effects_of new.world
  steps_count zero old new keeps shut same = subst (λ (run : Run). 0 + weights run.threads + 4 * effects_of old.world ≤ weights old.threads + 4 * effects_of run.world) same (omega arith)
  steps_count (suc n) old new keeps shut w = omega (
    arith,
    step_counts plan is_plan old w.0 keeps w.1.site w.1.is_site shut w.1.step,
    steps_count n w.0 new (step_keeps plan is_plan old w.0 keeps w.1.site w.1.is_site w.1.step) (step_opens plan is_plan old w.0 keeps w.1.site w.1.is_site w.1.step ∙ shut) w.2,
  )

  pub reached_keeps : (is_open : Bool) (n : ℕ) (run : Run) → LeadsBySteps plan n (first_moment is_open plan) run → RunKeeps plan run
  reached_keeps is_open n run leads = steps_keep n (first_moment is_open plan) run (start_keeps plan is_plan is_open) leads

  pub reached_open : (is_open : Bool) (n : ℕ) (run : Run) → LeadsBySteps plan n (first_moment is_open plan) run → run.is_open ≡ is_open
  reached_open is_open n run leads = steps_open n (first_moment is_open plan) run (start_keeps plan is_plan is_open) leads

  pub steps_bounded : (n : ℕ) (run : Run) → LeadsBySteps plan n (start_run plan) run → n ≤ 4 * bound_of plan + site_count plan
  steps_bounded n run leads =
      let keeps : RunKeeps plan run = reached_keeps false n run leads in
      omega (
        arith,
        steps_count n (start_run plan) run (start_keeps plan is_plan false) refl leads,
        fresh_weights (site_count plan),
        events_counted plan keeps.events run.world is_plan keeps.reached,
        events_bounded plan keeps.events run.world is_plan keeps.reached,
      )

  -- from each moment of a run steps lead to its end
  pub record LeadsToEnd (run : Run) : Type 0 where
    pub n : ℕ
    pub end : Run
    pub leads : LeadsBySteps plan n run end
    pub ended : RunHasEnded plan end

  ends_within : (more n : ℕ) (run : Run) → LeadsBySteps plan n (start_run plan) run → 4 * bound_of plan + site_count plan ≤ n + more → LeadsToEnd run
  ends_within zero n run leads enough = elim (step_or_end plan is_plan run (reached_keeps false n run leads) (reached_open false n run leads)) [
    | inl w ↦ absurd (omega (arith, steps_bounded (suc n) w.0 (leads_then plan n (start_run plan) run w.0 leads w.1)))
    | inr ended ↦ record { n = 0; end = run; leads = refl; ended = ended }
  ]
  ends_within (suc more) n run leads enough = elim (step_or_end plan is_plan run (reached_keeps false n run leads) (reached_open false n run leads)) [
    | inl w ↦
        let rest : LeadsToEnd w.0 = ends_within more (suc n) w.0 (leads_then plan n (start_run plan) run w.0 leads w.1) (omega arith) in
        record { n = suc rest.n; end = rest.end; leads = (w.0, w.1, rest.leads); ended = rest.ended }
    | inr ended ↦ record { n = 0; end = run; leads = refl; ended = ended }
  ]

  pub run_ends : (n : ℕ) (run : Run) → LeadsBySteps plan n (start_run plan) run → LeadsToEnd run
  run_ends n run leads = ends_within (4 * bound_of plan + site_count plan) n run leads (omega arith)

  pub stuck_has_ended : (n : ℕ) (run : Run) → LeadsBySteps plan n (start_run plan) run → ((new : Run) → RunStep plan run new → ⊥) → RunHasEnded plan run
  stuck_has_ended n run leads stuck = elim (step_or_end plan is_plan run (reached_keeps false n run leads) (reached_open false n run leads)) [
    | inl w ↦ absurd (stuck w.0 w.1)
    | inr ended ↦ ended
  ]
