-- An open run in which no step is due is at rest, and all that are at rest have been served.
use Rattle.std.proofs.Common.{◌≡◌, ◌⊎◌, ℕ, zero, suc, ◌+◌, ◌<◌, ◌==◌, ◌||◌, Bool, true, false, if◌then◌else◌, List, [], ◌∷◌, slice_set, Option, Some, None, refl, sym, ◌∙◌, ap, ap₂, subst, inl, inr, arith}
use Rattle.std.proofs.lemmas.Bool.{cond-false, cond-true, eq-eqb, false_from_ne_true, ne_eqb, true≢false}
use Rattle.std.proofs.lemmas.Option.{same_Some}
use Rattle.dine_graph.specs.Plan.{SeenPlan, IsPlan, site_count}
use Rattle.dine_rules.specs.declared.events.EventKind.{EventKind}
use Rattle.dine_rules.specs.declared.events.EventKind.TheVariants as event
use Rattle.dine_rules.specs.Local.{LocalState, is_thinking, neighbour_at}
use Rattle.dine_rules.specs.World.{state_of}
use Rattle.dine_rules.proofs.shared.counting.Enabled.{IsStill}
use Rattle.dine_rules.proofs.shared.links.WorldStreams.{reached_kept}
use Rattle.dine_site.specs.CoreWants.{wants_by_lists}
use Rattle.dine_site.specs.NextEvent.{may_by_itself, next_event, own_kinds}
use Rattle.dine_site.specs.Standing.{all_places, has_finished}
use Rattle.dine_waking.specs.Doors.{Door, RestsAtDoor, Thinker, is_called, is_ended, woken}
use Rattle.dine_waking.specs.Doors as at_door
use Rattle.dine_waking.specs.OpenRuns.{DueStep, IsAtRest, LeadsByOpenSteps, OpenRun, ToAct, ToAsk, ToHear, ToHearDoorbell, ToRing, ToRingDoorbell, ToSleep, ToTake, ToWake, first_open_run}
use Rattle.dine_waking.specs.Resting.{AllRestWell}
use Rattle.dine_waking.specs.Runs.{Doing, GoesOn, HasToRing, HasToTake, HasToWake, IsToBeWoken, Run, RunHasEnded, Sleeps, Thread, after_ringing, doing_after, is_woken_by, may_think_on, number_there, rings_for, takes_letters, thread_after_ring, thread_of}
use Rattle.dine_rules.proofs.shared.lists.Finds.{found_passes}
use Rattle.dine_waking.proofs.Agreement.{Agrees, busy_on, is_asleep, is_off, not_asleep}
use Rattle.dine_waking.proofs.Asleep.{all_or_one}
use Rattle.dine_waking.proofs.Bells.{Fits, IsUnrung}
use Rattle.dine_waking.proofs.Doors.{closed_doors_end, rung_for}
use Rattle.dine_waking.proofs.OpenRuns.{OpenKeeps, open_door_leads}
use Rattle.dine_waking.proofs.Progress as inside
use Rattle.dine_waking.proofs.Progress.{complete_has_ended, finds_woken, nobody_woken, own_happens, rests_well, takes_letter}
use Rattle.dine_waking.proofs.Quiet.{still_finished}
use Rattle.dine_waking.proofs.Resting.{all_at_rest_think}

-- ---- the door of one site changes

abbrev set_door : (ℕ → Door) → ℕ → Door → ℕ → Door
set_door doors s door t = if t == s then door else doors t

set_here : (doors : ℕ → Door) (s : ℕ) (door : Door) → set_door doors s door s ≡ door
set_here doors s door = cond-true {A = Door} (s == s) door (doors s) (eq-eqb s s refl)

set_other : (doors : ℕ → Door) (s : ℕ) (door : Door) (t : ℕ) → (t ≡ s → ⊥) → set_door doors s door t ≡ doors t
set_other doors s door t other = cond-false {A = Door} (t == s) door (doors t) (ne_eqb t s other)

hungry_or_not : (kind : EventKind) → (kind ≡ event.Hungry) ⊎ (kind ≡ event.Hungry → ⊥)
hungry_or_not event.Hungry = inl refl
hungry_or_not kind = inr (λ is. cc)

-- some step is due at this site
abbrev IsDueAt : SeenPlan → OpenRun → ℕ → Type 0
IsDueAt plan at s = (new : OpenRun) × DueStep plan s at new

-- none is: nobody has to ring, and the thread is at rest
record RestsAt (plan : SeenPlan) (at : OpenRun) (s : ℕ) : Type 0 where
  pub owes : (at.doors s).owed ≡ 0
  pub thread_rests : inside.IsAtRest plan at.run s

-- ---- one site

module _ (plan : SeenPlan) (is_plan : IsPlan plan) (at : OpenRun) (keeps : OpenKeeps plan at) (s : ℕ) (is_site : s < site_count plan) where
  abbrev thread : Thread
  thread = thread_of at.run s

  abbrev state : LocalState
  state = state_of at.run.world s

  abbrev door : Door
  door = at.doors s

  agrees : Agrees plan s thread.doing state door.thinker
  agrees = keeps.agree s is_site

  abbrev IsDue : Type 0
  IsDue = IsDueAt plan at s

  abbrev RestsHere : Type 0
  RestsHere = RestsAt plan at s

  -- who is to grow hungry has not finished
  pub hungry_unfinished : next_event plan s state ≡ Some event.Hungry → has_finished plan s state ≡ false
  hungry_unfinished next = false_from_ne_true (has_finished plan s state) (λ h.
      let still : IsStill plan at.run.world s = still_finished plan at.run.world s ((reached_kept plan keeps.run.events at.run.world is_plan keeps.run.reached).keeps s is_site) h in
      true≢false (sym (found_passes (may_by_itself plan s state) (own_kinds (all_places state)) event.Hungry next) ∙ still.hungers))

  -- ---- the doorbell

  module _ (rest : ℕ) (owed : door.owed ≡ suc rest) where
    abbrev rung : Door
    rung = record door { owed = rest; rings = door.rings + 1; thinker = woken door.thinker }

    abbrev doors_rung : ℕ → Door
    doors_rung = set_door at.doors s rung

    rings_awake : is_asleep thread.doing ≡ false → IsDue
    rings_awake off = (
      record { run = at.run; doors = doors_rung },
      ToRingDoorbell (record { rest = rest; owed = owed; door = set_here at.doors s rung; others = set_other at.doors s rung; wakes = inr (not_asleep thread.doing off, refl) }),
    )

    rings_doorbell : (doing : Doing) → thread.doing ≡ doing → IsDue
    rings_doorbell (Sleeps wants) is = (
      record { run = record at.run { threads = slice_set at.run.threads s (record { doing = GoesOn; bell = thread.bell }) }; doors = doors_rung },
      ToRingDoorbell (record {
        rest = rest;
        owed = owed;
        door = set_here at.doors s rung;
        others = set_other at.doors s rung;
        wakes = inl (record { is_open = keeps.opens; wants = wants; sleeps = is; world = refl; as_open = refl; threads = refl });
      }),
    )
    rings_doorbell GoesOn is = rings_awake (ap is_asleep is)
    rings_doorbell (HasToRing i kind) is = rings_awake (ap is_asleep is)
    rings_doorbell (HasToWake i) is = rings_awake (ap is_asleep is)
    rings_doorbell (HasToTake i) is = rings_awake (ap is_asleep is)
    rings_doorbell (IsToBeWoken i) is = rings_awake (ap is_asleep is)

  -- ---- a thread that goes on

  module _ (on : thread.doing ≡ GoesOn) where
    acts : (kind : EventKind) → next_event plan s state ≡ Some kind → door.thinker ≡ at_door.Busy → (kind ≡ event.Hungry → is_called door ≡ true) → IsDue
    acts kind next busy called =
        let happens = own_happens plan at.run.world s is_site kind (found_passes (may_by_itself plan s state) (own_kinds (all_places state)) kind next) in (
          record { run = record { world = happens.0; is_open = at.run.is_open; threads = slice_set at.run.threads s (record { doing = doing_after kind; bell = thread.bell }) }; doors = at.doors },
          ToAct (record { acts = record { goes_on = on; kind = kind; next = next; world = happens.1; as_open = refl; threads = refl }; busy = busy; called = called; doors = λ t. refl }),
        )

    -- it hears the next ring of a neighbour
    hears : (i : ℕ) (rest : List ℕ) → thread.bell ≡ i ∷ rest → (takes_letters (next_event plan s state) || may_think_on at.run.is_open (next_event plan s state)) ≡ true → IsDue
    hears i rest ringing turn = (
      record { run = record at.run { threads = slice_set at.run.threads s (record { doing = HasToTake i; bell = rest }) }; doors = set_door at.doors s (record door { thinker = at_door.Busy }) },
      ToHear (record {
        hears = record { goes_on = on; turn = turn; i = i; front = []; rest = rest; bell = ringing; first = refl; world = refl; as_open = refl; threads = refl };
        door = set_here at.doors s (record door { thinker = at_door.Busy });
        others = set_other at.doors s (record door { thinker = at_door.Busy });
      }),
    )

    -- it hears a ring of those outside
    hears_doorbell : (rest : ℕ) → door.rings ≡ suc rest → IsDue
    hears_doorbell rest rings = (
      record { run = at.run; doors = set_door at.doors s (record door { rings = rest; thinker = at_door.Busy }) },
      ToHearDoorbell (record {
        here = record {
          step = at_door.Hears rest rings (set_here at.doors s (record door { rings = rest; thinker = at_door.Busy }));
          others = set_other at.doors s (record door { rings = rest; thinker = at_door.Busy });
          run = refl;
        };
        hears = tt;
        goes_on = on;
      }),
    )

    -- the run after it fell asleep
    abbrev asleep_now : Run
    asleep_now = record at.run { threads = slice_set at.run.threads s (record { doing = Sleeps (wants_by_lists plan s state); bell = thread.bell }) }

    sleeps_idle : next_event plan s state ≡ None → thread.bell ≡ [] → has_finished plan s state ≡ false → (rings : ℕ) → door.rings ≡ rings → IsDue
    sleeps_idle none silent unfinished (suc rest) ringing = hears_doorbell rest ringing
    sleeps_idle none silent unfinished zero ringing = (
      record { run = asleep_now; doors = at.doors },
      ToSleep (record {
        sleeps = record {
          goes_on = on;
          idle = inl none;
          unfinished = unfinished;
          put_off = λ i some. absurd (omega (arith, some, ap (rings_for i) silent));
          once = λ i. omega (arith, ap (rings_for i) silent);
          world = refl;
          as_open = refl;
          threads = refl;
        };
        silent = ringing;
        door = inl (none, busy_on plan s thread.doing state door.thinker on (λ hungry. let e : None ≡ Some event.Hungry = sym none ∙ hungry in cc) agrees, refl);
        others = λ t other. refl;
      }),
    )

    sleeps_thinking : next_event plan s state ≡ Some event.Hungry → door.thinker ≡ at_door.Thinks → thread.bell ≡ [] → (rings : ℕ) → door.rings ≡ rings → IsDue
    sleeps_thinking hungry thinks silent (suc rest) ringing = hears_doorbell rest ringing
    sleeps_thinking hungry thinks silent zero ringing = (
      record { run = asleep_now; doors = set_door at.doors s (record door { thinker = at_door.Sleeps }) },
      ToSleep (record {
        sleeps = record {
          goes_on = on;
          idle = inr (keeps.opens, hungry);
          unfinished = hungry_unfinished hungry;
          put_off = λ i some. absurd (omega (arith, some, ap (rings_for i) silent));
          once = λ i. omega (arith, ap (rings_for i) silent);
          world = refl;
          as_open = refl;
          threads = refl;
        };
        silent = ringing;
        door = inr (hungry, thinks, set_here at.doors s (record door { thinker = at_door.Sleeps }));
        others = set_other at.doors s (record door { thinker = at_door.Sleeps });
      }),
    )

    -- it asks at its door, and is not called
    asks : next_event plan s state ≡ Some event.Hungry → door.thinker ≡ at_door.Busy → is_called door ≡ false → IsDue
    asks hungry busy called =
        let is : set_door at.doors s (record door { waits = true; thinker = at_door.Thinks }) s ≡ (if is_called door then record door { waits = false } else record door { waits = true; thinker = at_door.Thinks }) =
        set_here at.doors s (record door { waits = true; thinker = at_door.Thinks }) ∙ sym (cond-false {A = Door} (is_called door) (record door { waits = false }) (record door { waits = true; thinker = at_door.Thinks }) called) in (
          record { run = at.run; doors = set_door at.doors s (record door { waits = true; thinker = at_door.Thinks }) },
          ToAsk (record {
            here = record { step = at_door.Asks busy is; others = set_other at.doors s (record door { waits = true; thinker = at_door.Thinks }); run = refl };
            not_called = called;
            asks = tt;
            goes_on = on;
            next = hungry;
          }),
        )

    by_call : next_event plan s state ≡ Some event.Hungry → door.thinker ≡ at_door.Busy → (called : Bool) → is_called door ≡ called → IsDue
    by_call hungry busy true called = acts event.Hungry hungry busy (λ is. called)
    by_call hungry busy false called = asks hungry busy called

    by_bell : next_event plan s state ≡ Some event.Hungry → door.thinker ≡ at_door.Thinks → (bell : List ℕ) → thread.bell ≡ bell → IsDue
    by_bell hungry thinks [] silent = sleeps_thinking hungry thinks silent door.rings refl
    by_bell hungry thinks (i ∷ rest) ringing = hears i rest ringing (ap (λ (o : Option EventKind). takes_letters o || may_think_on at.run.is_open o) hungry ∙ keeps.opens)

    by_thinker : next_event plan s state ≡ Some event.Hungry → (thinker : Thinker) → door.thinker ≡ thinker → IsDue
    by_thinker hungry at_door.Busy is = by_call hungry is (is_called door) refl
    by_thinker hungry at_door.Thinks is = by_bell hungry is thread.bell refl
    by_thinker hungry at_door.Sleeps is = absurd (true≢false (sym (agrees.asleep is) ∙ ap is_off on))

    goes_on : door.owed ≡ 0 → (next : Option EventKind) → next_event plan s state ≡ next → (bell : List ℕ) → thread.bell ≡ bell → (b : Bool) → has_finished plan s state ≡ b → IsDue ⊎ RestsHere
    goes_on owes (Some kind) next bell ringing b finished = elim (hungry_or_not kind) [
      | inl is ↦ inl (by_thinker (next ∙ ap (λ (k : EventKind). Some k) is) door.thinker refl)
      | inr other ↦ inl (acts kind next (busy_on plan s thread.doing state door.thinker on (λ hungry. other (same_Some kind event.Hungry (sym next ∙ hungry))) agrees) (λ is. absurd (other is)))
    ]
    goes_on owes None next (i ∷ rest) ringing b finished = inl (hears i rest ringing (ap (λ (o : Option EventKind). takes_letters o || may_think_on at.run.is_open o) next))
    goes_on owes None next [] ringing false finished = inl (sleeps_idle next ringing finished door.rings refl)
    goes_on owes None next [] ringing true finished = inr (record {
      owes = owes;
      thread_rests = record {
        quiet = λ place letters unrung. subst (λ (d : Doing). IsUnrung d place letters) on unrung;
        wakes_none = λ i is. let e : GoesOn ≡ HasToWake i = sym on ∙ is in cc;
        rest = inl (finished, ap₂ (λ (d : Doing) (numbers : List ℕ). record { doing = d; bell = numbers }) on ringing);
      };
    })

  -- ---- any thread

  by_doing : door.owed ≡ 0 → (doing : Doing) → thread.doing ≡ doing → IsDue ⊎ RestsHere
  by_doing owes GoesOn is = goes_on is owes (next_event plan s state) refl thread.bell refl (has_finished plan s state) refl
  by_doing owes (HasToRing i kind) is = inl (
    record {
      run = record at.run {
        threads = slice_set
            (slice_set at.run.threads s (record { doing = after_ringing (is_woken_by false (number_there plan s i) kind (thread_of at.run (neighbour_at plan s i)).doing) i; bell = thread.bell }))
            (neighbour_at plan s i) (thread_after_ring false (number_there plan s i) kind (thread_of at.run (neighbour_at plan s i)));
      };
      doors = at.doors;
    },
    ToRing (record { rings = record { i = i; kind = kind; anyway = false; rings = is; world = refl; as_open = refl; threads = refl }; doors = λ t. refl }),
  )
  by_doing owes (HasToWake i) is = inl (
    record {
      run = record at.run {
        threads = slice_set (slice_set at.run.threads s (record { doing = GoesOn; bell = thread.bell })) (neighbour_at plan s i) (record { doing = GoesOn; bell = (thread_of at.run (neighbour_at plan s i)).bell });
      };
      doors = set_door at.doors (neighbour_at plan s i) (record (at.doors (neighbour_at plan s i)) { thinker = at_door.Busy });
    },
    ToWake (record {
      wakes = record { i = i; wakes = is; woken = finds_woken plan is_plan at.run keeps.run s is_site i is; world = refl; as_open = refl; threads = refl };
      door = set_here at.doors (neighbour_at plan s i) (record (at.doors (neighbour_at plan s i)) { thinker = at_door.Busy });
      others = set_other at.doors (neighbour_at plan s i) (record (at.doors (neighbour_at plan s i)) { thinker = at_door.Busy });
    }),
  )
  by_doing owes (HasToTake i) is =
      let taken = takes_letter plan is_plan at.run keeps.run s is_site i is (keeps.run.sites s is_site).rung_for refl in
      inl (record { run = taken.0; doors = at.doors }, ToTake (record { takes = taken.1; doors = λ t. refl }))
  by_doing owes (Sleeps wants) is = inr (record {
    owes = owes;
    thread_rests = record {
      quiet = λ place letters unrung. subst (λ (d : Doing). IsUnrung d place letters) is unrung;
      wakes_none = λ i wakes. let e : Sleeps wants ≡ HasToWake i = sym is ∙ wakes in cc;
      rest = inr (inl (wants, is));
    };
  })
  by_doing owes (IsToBeWoken i) is = inr (record {
    owes = owes;
    thread_rests = record {
      quiet = λ place letters unrung. subst (λ (d : Doing). IsUnrung d place letters) is unrung;
      wakes_none = λ j wakes. let e : IsToBeWoken i ≡ HasToWake j = sym is ∙ wakes in cc;
      rest = inr (inr (i, subst (λ (d : Doing). Fits plan at.run.is_open s state (keeps.run.sites s is_site).rung_for d) is (keeps.run.sites s is_site).fits, is));
    };
  })

  by_owed : (owed : ℕ) → door.owed ≡ owed → IsDue ⊎ RestsHere
  by_owed zero is = by_doing is thread.doing refl
  by_owed (suc rest) is = inl (rings_doorbell rest is thread.doing refl)

  due_or_rest : RestsHere ⊎ IsDue
  due_or_rest = elim (by_owed door.owed refl) [
    | inl due ↦ inr due
    | inr rests ↦ inl rests
  ]

-- ---- all sites

module _ (plan : SeenPlan) (is_plan : IsPlan plan) (at : OpenRun) (keeps : OpenKeeps plan at) where
  at_rest : ((s : ℕ) → s < site_count plan → RestsAt plan at s) → IsAtRest plan at
  at_rest all =
      let threads : (s : ℕ) → s < site_count plan → inside.IsAtRest plan at.run s = λ s is_site. (all s is_site).thread_rests in
      record {
        rest = λ s is_site. elim (threads s is_site).rest [
          | inl w ↦ inl w.0
          | inr (inl w) ↦ inr (record { rests = rests_well plan is_plan at.run keeps.run threads s is_site w.0 w.1; sleeps = λ hungry. (keeps.agree s is_site).rests w.0 w.1 hungry })
          | inr (inr w) ↦ absurd (nobody_woken plan is_plan at.run keeps.run threads s is_site w.0 w.1 w.2)
        ];
        owes = λ s is_site. (all s is_site).owes;
        asleep = λ s is_site. elim (threads s is_site).rest [
          | inl w ↦ inl w
          | inr (inl w) ↦ inr w
          | inr (inr w) ↦ absurd (nobody_woken plan is_plan at.run keeps.run threads s is_site w.0 w.1 w.2)
        ];
      }

  pub step_or_rest : ((s : ℕ) × (s < site_count plan) × (new : OpenRun) × DueStep plan s at new) ⊎ IsAtRest plan at
  step_or_rest = elim (all_or_one {P = RestsAt plan at} {Q = IsDueAt plan at} (site_count plan) (due_or_rest plan is_plan at keeps)) [
    | inl all ↦ inr (at_rest all)
    | inr w ↦ inl (w.0, w.1, w.2.0, w.2.1)
  ]

  -- ---- at rest

  module _ (rest : IsAtRest plan at) where
    all_rest : AllRestWell plan at.run.world
    all_rest s is_site = elim (rest.rest s is_site) [
      | inl finished ↦ inl finished
      | inr here ↦ inr here.rests
    ]

    pub rest_thinks : (s : ℕ) → s < site_count plan → is_thinking (state_of at.run.world s).phase ≡ true
    rest_thinks s is_site = all_at_rest_think plan keeps.run.events at.run.world is_plan keeps.run.reached all_rest s is_site

    pub rest_not_called : (n : ℕ) → LeadsByOpenSteps plan n (first_open_run plan) at → (s : ℕ) → s < site_count plan → next_event plan s (state_of at.run.world s) ≡ Some event.Hungry → is_called (at.doors s) ≡ false
    rest_not_called n leads s is_site hungry = elim (rest.rest s is_site) [
      | inl finished ↦ absurd (true≢false (sym finished ∙ hungry_unfinished plan is_plan at keeps s is_site hungry))
      | inr here ↦ false_from_ne_true (is_called (at.doors s)) (λ called.
          omega (arith, rest.owes s is_site, rung_for (at.doors s) (open_door_leads plan s n (first_open_run plan) at leads) (here.sleeps hungry) called))
    ]

    -- each thread is at rest
    threads_rest : (s : ℕ) → s < site_count plan → inside.IsAtRest plan at.run s
    threads_rest s is_site = elim (rest.asleep s is_site) [
      | inl w ↦
          let on : (thread_of at.run s).doing ≡ GoesOn = ap (λ (thread : Thread). thread.doing) w.1 in
          record {
            quiet = λ place letters unrung. subst (λ (d : Doing). IsUnrung d place letters) on unrung;
            wakes_none = λ i wakes. let e : GoesOn ≡ HasToWake i = sym on ∙ wakes in cc;
            rest = inl w;
          }
      | inr w ↦ record {
        quiet = λ place letters unrung. subst (λ (d : Doing). IsUnrung d place letters) w.1 unrung;
        wakes_none = λ i wakes. let e : Sleeps w.0 ≡ HasToWake i = sym w.1 ∙ wakes in cc;
        rest = inr (inl w);
      }
    ]

    pub rest_ends : (n : ℕ) → LeadsByOpenSteps plan n (first_open_run plan) at → ((s : ℕ) → s < site_count plan → is_ended (at.doors s) ≡ true) → RunHasEnded plan at.run
    rest_ends n leads closed = complete_has_ended plan is_plan at.run keeps.run threads_rest
        (closed_doors_end plan keeps.run.events at.run.world at.doors is_plan keeps.run.reached rest.rest (λ s is_site. open_door_leads plan s n (first_open_run plan) at leads) closed rest.owes)
