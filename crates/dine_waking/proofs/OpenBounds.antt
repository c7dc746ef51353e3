-- How many steps of an open run are due.
use Rattle.std.proofs.Common.{◌≡◌, ℕ, zero, suc, ◌+◌, ◌*◌, ◌<◌, ◌≤◌, ◌||◌, Bool, true, false, List, [], ◌∷◌, ◌++◌, length, replicate, get_or, slice_set, sum_by, Some, refl, ◌∙◌, ap, subst, inl, inr, arith, length-append, if◌then◌else◌}
use Rattle.std.proofs.lemmas.Bool.{cases_eq, cond-false}
use Rattle.std.proofs.lemmas.List.{get_or-set_other, length-set}
use Rattle.std.proofs.lemmas.List.Sums.{sum_by-cons, sum_by-set}
use Rattle.dine_graph.specs.Plan.{SeenPlan, IsPlan, site_count, edges_of}
use Rattle.dine_rules.specs.declared.events.Event.{Event}
use Rattle.dine_rules.specs.declared.events.EventKind.{EventKind}
use Rattle.dine_rules.specs.declared.events.EventKind.TheVariants as event
use Rattle.dine_rules.specs.declared.letters.LetterKind.{LetterKind}
use Rattle.dine_rules.specs.Bound.{bound_of, effects_of}
use Rattle.dine_rules.specs.Local.{edge_at, neighbour_at}
use Rattle.dine_rules.specs.Wants.{SeenWants, is_wanted, still_wanted}
use Rattle.dine_rules.specs.World.{place_of, start, state_of, world_after}
use Rattle.dine_rules.proofs.shared.counting.EffectBounds.{events_bounded}
use Rattle.dine_rules.proofs.shared.counting.Effects.{events_counted}
use Rattle.dine_rules.proofs.shared.links.Across.{across}
use Rattle.dine_rules.proofs.shared.links.WorldStreams.{events_then, neighbour_differs}
use Rattle.dine_rules.proofs.shared.one_place.Placed.{placed}
use Rattle.dine_site.specs.CoreWants.{wants_by_lists}
use Rattle.dine_waking.specs.Doors.{Door, DoorStep, Thinker, first_door, is_called, woken}
use Rattle.dine_waking.specs.Doors as at_door
use Rattle.dine_waking.specs.OpenRuns.{ActsOnCall, AsksAtDoor, Due, DueStep, Free, FreeStep, HearsDoorbell, HearsOnCall, IsAsking, IsFree, IsHearing, LeadsByOpenSteps, OpenRun, RingsDoorbell, RingsOnCall, SiteStep, SleepsOnCall, TakesOnCall, ToAct, ToAsk, ToHear, ToHearDoorbell, ToRing, ToRingDoorbell, ToSleep, ToTake, ToWake, WakesOnCall, count_due, count_free, due_steps, first_open_run, free_steps}
use Rattle.dine_waking.specs.Runs.{Doing, GoesOn, HasToRing, HasToTake, HasToWake, IsToBeWoken, Run, Sleeps, Thread, after_ringing, doing_after, doing_rung, fresh_thread, is_woken_by, thread_after_ring, thread_of}
use Rattle.dine_waking.proofs.Bells.{Fits, KeepsBell}
use Rattle.dine_waking.proofs.OpenRuns.{OpenKeeps, open_keeps, open_step_keeps, start_agrees}
use Rattle.dine_waking.proofs.Queues.{take_at}

-- ---- what a thread may do before the next event of its site

abbrev weight : Doing → ℕ
weight GoesOn = 2
weight (HasToRing i kind) = 7
weight (HasToWake i) = 6
weight (HasToTake i) = 0
weight (IsToBeWoken i) = 0
weight (Sleeps wants) = 0

abbrev weight_of : Thread → ℕ
weight_of thread = weight thread.doing

abbrev weights : List Thread → ℕ
weights = sum_by weight_of

weight_after : (kind : EventKind) → weight (doing_after kind) ≤ 7
weight_after (event.Take i) = omega arith
weight_after (event.Give i) = omega arith
weight_after event.End = omega arith
weight_after event.Begin = omega arith
weight_after event.Quit = omega arith
weight_after event.Hungry = omega arith
weight_after (event.Ask i) = omega arith
weight_after (event.Done i) = omega arith
weight_after (event.Close i) = omega arith

weight_woken : (b : Bool) (i j : ℕ) (wants : SeenWants) → weight (after_ringing b i) + weight (if b then IsToBeWoken j else Sleeps wants) ≤ 6
weight_woken true i j wants = omega arith
weight_woken false i j wants = omega arith

weight_rung : (anyway : Bool) (i j : ℕ) (kind : LetterKind) (doing : Doing) → weight (after_ringing (is_woken_by anyway j kind doing) i) + weight (doing_rung anyway j kind doing) ≤ 6 + weight doing
weight_rung anyway i j kind GoesOn = omega arith
weight_rung anyway i j kind (HasToRing k l) = omega arith
weight_rung anyway i j kind (HasToWake k) = omega arith
weight_rung anyway i j kind (HasToTake k) = omega arith
weight_rung anyway i j kind (IsToBeWoken k) = omega arith
weight_rung anyway i j kind (Sleeps wants) = weight_woken (is_wanted wants j kind || anyway) i j (still_wanted wants kind)

weights_set : (threads : List Thread) (s : ℕ) (thread : Thread) → s < length threads → weights (slice_set threads s thread) + weight_of (get_or threads s fresh_thread) ≡ weights threads + weight_of thread
weights_set threads s thread within = sum_by-set weight_of threads s thread fresh_thread within

-- ---- what may happen at a door before somebody comes

abbrev may_ask : Thinker → ℕ
may_ask at_door.Busy = 1
may_ask at_door.Thinks = 0
may_ask at_door.Sleeps = 0

abbrev door_weight : Door → ℕ
door_weight door = may_ask door.thinker + 2 * door.rings + 6 * door.owed

asks_once : (thinker : Thinker) → may_ask thinker ≤ 1
asks_once at_door.Busy = omega arith
asks_once at_door.Thinks = omega arith
asks_once at_door.Sleeps = omega arith

-- what is owed once somebody called
owed_more : (door : Door) (waits : Bool) → door.owed + (if waits then 1 else 0) ≤ door.owed + 1
owed_more door true = omega arith
owed_more door false = omega arith

asking_weight : (old new : Door) (step : DoorStep old new) → IsAsking old new step → is_called old ≡ false → 1 + door_weight new ≡ door_weight old
asking_weight old new (at_door.Asks busy is) asks called =
    let now : new ≡ record old { waits = true; thinker = at_door.Thinks } = is ∙ cond-false {A = Door} (is_called old) (record old { waits = false }) (record old { waits = true; thinker = at_door.Thinks }) called in
    omega (arith, ap door_weight now, ap may_ask busy)
asking_weight old new (at_door.Submits is_open is) asks called = absurd asks
asking_weight old new (at_door.Closes is) asks called = absurd asks
asking_weight old new (at_door.Ends is) asks called = absurd asks
asking_weight old new (at_door.Rings rest owed is) asks called = absurd asks
asking_weight old new (at_door.Begins rest busy tasks is) asks called = absurd asks
asking_weight old new (at_door.Hears rest rings is) asks called = absurd asks
asking_weight old new (at_door.GoesOn is) asks called = absurd asks
asking_weight old new (at_door.FallsAsleep thinks none is) asks called = absurd asks

hearing_weight : (old new : Door) (step : DoorStep old new) → IsHearing old new step → 1 + door_weight new ≤ door_weight old
hearing_weight old new (at_door.Hears rest rings is) hears = omega (arith, ap door_weight is, rings)
hearing_weight old new (at_door.Submits is_open is) hears = absurd hears
hearing_weight old new (at_door.Closes is) hears = absurd hears
hearing_weight old new (at_door.Ends is) hears = absurd hears
hearing_weight old new (at_door.Rings rest owed is) hears = absurd hears
hearing_weight old new (at_door.Begins rest busy tasks is) hears = absurd hears
hearing_weight old new (at_door.Asks busy is) hears = absurd hears
hearing_weight old new (at_door.GoesOn is) hears = absurd hears
hearing_weight old new (at_door.FallsAsleep thinks none is) hears = absurd hears

free_weight : (old new : Door) (step : DoorStep old new) → IsFree old new step → door_weight new ≤ door_weight old + 6
free_weight old new (at_door.Submits is_open is) free = omega (arith, ap door_weight is, owed_more old old.waits)
free_weight old new (at_door.Closes is) free = omega (arith, ap door_weight is, owed_more old old.waits)
free_weight old new (at_door.Ends is) free = omega (arith, ap door_weight is, owed_more old old.waits)
free_weight old new (at_door.Begins rest busy tasks is) free = omega (arith, ap door_weight is)
free_weight old new (at_door.Rings rest owed is) free = absurd free
free_weight old new (at_door.Hears rest rings is) free = absurd free
free_weight old new (at_door.Asks busy is) free = absurd free
free_weight old new (at_door.GoesOn is) free = absurd free
free_weight old new (at_door.FallsAsleep thinks none is) free = absurd free

woken_weight : (thinker : Thinker) → may_ask (woken thinker) ≤ may_ask thinker + 1
woken_weight at_door.Busy = omega arith
woken_weight at_door.Thinks = omega arith
woken_weight at_door.Sleeps = omega arith

-- ---- all doors

door_weights : ℕ → (ℕ → Door) → ℕ
door_weights zero doors = 0
door_weights (suc n) doors = door_weight (doors n) + door_weights n doors

same_weights : (n : ℕ) (old new : ℕ → Door) → ((t : ℕ) → t < n → new t ≡ old t) → door_weights n new ≡ door_weights n old
unfolding door_weights
same_weights zero old new same = refl
same_weights (suc n) old new same = omega (arith, ap door_weight (same n (omega arith)), same_weights n old new (λ t h. same t (omega arith)))

one_weight : (n : ℕ) (old new : ℕ → Door) (s : ℕ) → s < n → ((t : ℕ) → (t ≡ s → ⊥) → new t ≡ old t) → door_weights n new + door_weight (old s) ≡ door_weights n old + door_weight (new s)
unfolding door_weights
one_weight zero old new s within others = absurd (omega arith)
one_weight (suc n) old new s within others = elim (cases_eq n s) [
  | inl same ↦
      let rest : door_weights n new ≡ door_weights n old = same_weights n old new (λ t h. others t (λ here. omega (arith, h, here, same))) in
      omega (arith, rest, ap (λ (k : ℕ). door_weight (new k)) same, ap (λ (k : ℕ). door_weight (old k)) same)
  | inr other ↦ omega (arith, ap door_weight (others n other), one_weight n old new s (omega arith) others)
]

first_weights : (n : ℕ) → door_weights n (λ s. first_door) ≡ n
unfolding door_weights
first_weights zero = refl
first_weights (suc n) = omega (arith, first_weights n)

-- ---- each step

module _ (plan : SeenPlan) (is_plan : IsPlan plan) (old new : OpenRun) (keeps : OpenKeeps plan old) (s : ℕ) (is_site : s < site_count plan) where
  has_thread : s < length old.run.threads
  has_thread = omega (arith, keeps.run.threads)

  abbrev doors_of : OpenRun → ℕ
  doors_of at = door_weights (site_count plan) at.doors

  -- the step counts, by the events that the world had
  abbrev Counts : Type 0
  Counts = 1 + weights new.run.threads + doors_of new + 6 * effects_of old.run.world ≤ weights old.run.threads + doors_of old + 6 * effects_of new.run.world

  one_event : (e : Event) → world_after plan old.run.world e ≡ Some new.run.world → effects_of new.run.world ≡ effects_of old.run.world + 1
  one_event e h = omega (
    arith,
    events_counted plan keeps.run.events old.run.world is_plan keeps.run.reached,
    events_counted plan (keeps.run.events ++ e ∷ []) new.run.world is_plan (events_then plan (start plan) old.run.world new.run.world keeps.run.events e keeps.run.reached h),
    length-append keeps.run.events (e ∷ []),
  )

  doors_stay : ((t : ℕ) → new.doors t ≡ old.doors t) → doors_of new ≡ doors_of old
  doors_stay same = same_weights (site_count plan) old.doors new.doors (λ t h. same t)

  one_door : (x : ℕ) → x < site_count plan → ((t : ℕ) → (t ≡ x → ⊥) → new.doors t ≡ old.doors t) → doors_of new + door_weight (old.doors x) ≡ doors_of old + door_weight (new.doors x)
  one_door x is_x others = one_weight (site_count plan) old.doors new.doors x is_x others

  run_stays : new.run ≡ old.run → (weights new.run.threads ≡ weights old.run.threads) × (effects_of new.run.world ≡ effects_of old.run.world)
  run_stays same = (ap (λ (run : Run). weights run.threads) same, ap (λ (run : Run). effects_of run.world) same)

  acted : ActsOnCall plan s old new → Counts
  acted a =
      let thread : Thread = record { doing = doing_after a.acts.kind; bell = (thread_of old.run s).bell } in
      omega (arith, one_event (record { site = s; kind = a.acts.kind }) a.acts.world, ap weights a.acts.threads, weights_set old.run.threads s thread has_thread, ap weight a.acts.goes_on, weight_after a.acts.kind, doors_stay a.doors)

  taken : TakesOnCall plan s old new → Counts
  taken h =
      let thread : Thread = record { doing = GoesOn; bell = (thread_of old.run s).bell } in
      omega (arith, one_event (take_at s h.takes.i) h.takes.world, ap weights h.takes.threads, weights_set old.run.threads s thread has_thread, ap weight h.takes.takes, doors_stay h.doors)

  heard : HearsOnCall plan s old new → Counts
  heard h =
      let thread : Thread = record { doing = HasToTake h.hears.i; bell = h.hears.front ++ h.hears.rest } in
      omega (arith, ap effects_of h.hears.world, ap weights h.hears.threads, weights_set old.run.threads s thread has_thread, ap weight h.hears.goes_on, one_door s is_site h.others, ap door_weight h.door)

  slept : SleepsOnCall plan s old new → Counts
  slept f =
      let thread : Thread = record { doing = Sleeps (wants_by_lists plan s (state_of old.run.world s)); bell = (thread_of old.run s).bell } in
      let at_most : door_weight (new.doors s) ≤ door_weight (old.doors s) = elim f.door [
        | inl idle ↦ omega (arith, ap door_weight idle.2)
        | inr thinks ↦ omega (arith, ap door_weight thinks.2)
      ] in
      omega (arith, ap effects_of f.sleeps.world, ap weights f.sleeps.threads, weights_set old.run.threads s thread has_thread, ap weight f.sleeps.goes_on, one_door s is_site f.others, at_most)

  asked : AsksAtDoor plan s old new → Counts
  asked a =
      let same = run_stays a.here.run in
      omega (arith, same.0, same.1, one_door s is_site a.here.others, asking_weight (old.doors s) (new.doors s) a.here.step a.asks a.not_called)

  heard_doorbell : HearsDoorbell s old new → Counts
  heard_doorbell h =
      let same = run_stays h.here.run in
      omega (arith, same.0, same.1, one_door s is_site h.here.others, hearing_weight (old.doors s) (new.doors s) h.here.step h.hears)

  rung_doorbell : RingsDoorbell plan s old new → Counts
  rung_doorbell r =
      let lighter : 3 + door_weight (new.doors s) ≤ door_weight (old.doors s) = omega (arith, ap door_weight r.door, r.owed, woken_weight (old.doors s).thinker) in
      elim r.wakes [
        | inl called ↦
            let thread : Thread = record { doing = GoesOn; bell = (thread_of old.run s).bell } in
            omega (arith, ap effects_of called.world, ap weights called.threads, weights_set old.run.threads s thread has_thread, ap weight called.sleeps, one_door s is_site r.others, lighter)
        | inr awake ↦
            let same = run_stays awake.1 in
            omega (arith, same.0, same.1, one_door s is_site r.others, lighter)
      ]

  keeps_here : KeepsBell plan old.run s
  keeps_here = keeps.run.sites s is_site

  rung : RingsOnCall plan s old new → Counts
  rung w =
      let r = w.rings in
      let within : r.i < length (edges_of plan s) = subst (λ (d : Doing). Fits plan old.run.is_open s (state_of old.run.world s) keeps_here.rung_for d) r.rings keeps_here.fits in
      let there : ℕ = neighbour_at plan s r.i in
      let number : ℕ = place_of plan (neighbour_at plan s r.i) (edge_at plan s r.i) in
      let ringer : Thread = record { doing = after_ringing (is_woken_by r.anyway number r.kind (thread_of old.run there).doing) r.i; bell = (thread_of old.run s).bell } in
      let between : List Thread = slice_set old.run.threads s ringer in
      let sleeper : Thread = thread_after_ring r.anyway number r.kind (thread_of old.run there) in
      let has_sleeper : there < length between = omega (arith, keeps.run.threads, (across plan s r.i is_plan within).is_site, length-set old.run.threads s ringer) in
      let same : get_or between there fresh_thread ≡ thread_of old.run there = get_or-set_other old.run.threads s there ringer fresh_thread (neighbour_differs plan s r.i (placed plan s r.i is_plan within)) in
      omega (
        arith,
        ap effects_of r.world,
        ap weights r.threads,
        weights_set between there sleeper has_sleeper,
        ap weight_of same,
        weights_set old.run.threads s ringer has_thread,
        ap weight r.rings,
        weight_rung r.anyway r.i number r.kind (thread_of old.run there).doing,
        doors_stay w.doors,
      )

  woke : WakesOnCall plan s old new → Counts
  woke w =
      let h = w.wakes in
      let within : h.i < length (edges_of plan s) = subst (λ (d : Doing). Fits plan old.run.is_open s (state_of old.run.world s) keeps_here.rung_for d) h.wakes keeps_here.fits in
      let there : ℕ = neighbour_at plan s h.i in
      let over = across plan s h.i is_plan within in
      let waker : Thread = record { doing = GoesOn; bell = (thread_of old.run s).bell } in
      let between : List Thread = slice_set old.run.threads s waker in
      let awake : Thread = record { doing = GoesOn; bell = (thread_of old.run there).bell } in
      let has_sleeper : there < length between = omega (arith, keeps.run.threads, over.is_site, length-set old.run.threads s waker) in
      let same : get_or between there fresh_thread ≡ thread_of old.run there = get_or-set_other old.run.threads s there waker fresh_thread (neighbour_differs plan s h.i (placed plan s h.i is_plan within)) in
      omega (
        arith,
        ap effects_of h.world,
        ap weights h.threads,
        weights_set between there awake has_sleeper,
        ap weight_of same,
        ap weight h.woken,
        weights_set old.run.threads s waker has_thread,
        ap weight h.wakes,
        one_door there over.is_site w.others,
        ap door_weight w.door,
      )

  due_counts : DueStep plan s old new → Counts
  due_counts (ToAct a) = acted a
  due_counts (ToRing r) = rung r
  due_counts (ToWake w) = woke w
  due_counts (ToHear h) = heard h
  due_counts (ToTake t) = taken t
  due_counts (ToSleep f) = slept f
  due_counts (ToAsk a) = asked a
  due_counts (ToHearDoorbell h) = heard_doorbell h
  due_counts (ToRingDoorbell r) = rung_doorbell r

  free_counts : FreeStep s old new → weights new.run.threads + doors_of new + 6 * effects_of old.run.world ≤ weights old.run.threads + doors_of old + 6 * effects_of new.run.world + 6
  free_counts f =
      let same = run_stays f.here.run in
      omega (arith, same.0, same.1, one_door s is_site f.here.others, free_weight (old.doors s) (new.doors s) f.here.step f.free)

-- ---- all steps

fresh_weights : (n : ℕ) → weights (replicate n fresh_thread) ≡ 2 * n
fresh_weights zero = refl
fresh_weights (suc n) = omega (arith, sum_by-cons weight_of fresh_thread (replicate n fresh_thread), fresh_weights n)

module _ (plan : SeenPlan) (is_plan : IsPlan plan) where
  one_counts : (old new : OpenRun) → OpenKeeps plan old → (s : ℕ) → s < site_count plan → (one : SiteStep plan s old new)
      → count_due plan s old new one + weights new.run.threads + door_weights (site_count plan) new.doors + 6 * effects_of old.run.world ≤ weights old.run.threads + door_weights (site_count plan) old.doors + 6 * effects_of new.run.world + 6 * count_free plan s old new one
  one_counts old new keeps s is_site (Due due) = omega (arith, due_counts plan is_plan old new keeps s is_site due)
  one_counts old new keeps s is_site (Free free) = omega (arith, free_counts plan is_plan old new keeps s is_site free)

  all_count : (n : ℕ) (old new : OpenRun) → OpenKeeps plan old → (leads : LeadsByOpenSteps plan n old new)
      → due_steps plan n old new leads + weights new.run.threads + door_weights (site_count plan) new.doors + 6 * effects_of old.run.world
      ≤ weights old.run.threads + door_weights (site_count plan) old.doors + 6 * effects_of new.run.world + 6 * free_steps plan n old new leads
  all_count zero old new keeps same = omega (
    arith,
    ap (λ (at : OpenRun). weights at.run.threads) same,
    ap (λ (at : OpenRun). door_weights (site_count plan) at.doors) same,
    ap (λ (at : OpenRun). effects_of at.run.world) same,
  )
  all_count (suc n) old new keeps w = omega (
    arith,
    one_counts old w.0 keeps w.1.site w.1.is_site w.1.step,
    all_count n w.0 new (open_step_keeps plan is_plan old w.0 keeps w.1) w.2,
  )

  pub due_bounded : (n : ℕ) (at : OpenRun) (leads : LeadsByOpenSteps plan n (first_open_run plan) at)
      → due_steps plan n (first_open_run plan) at leads ≤ 6 * bound_of plan + 3 * site_count plan + 6 * free_steps plan n (first_open_run plan) at leads
  due_bounded n at leads =
      let keeps : OpenKeeps plan at = open_keeps plan is_plan n at leads in
      omega (
        arith,
        all_count n (first_open_run plan) at (start_agrees plan is_plan) leads,
        fresh_weights (site_count plan),
        first_weights (site_count plan),
        events_counted plan keeps.run.events at.run.world is_plan keeps.run.reached,
        events_bounded plan keeps.run.events at.run.world is_plan keeps.run.reached,
      )
