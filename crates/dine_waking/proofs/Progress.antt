-- A run in which no site can do a step has ended.
use Rattle.std.proofs.Common.{◌≡◌, ◌⊎◌, ℕ, zero, suc, ◌+◌, ◌<◌, Bool, true, false, ◌&&◌, ◌||◌, List, [], ◌∷◌, ◌++◌, length, map, slice_set, Option, Some, None, refl, sym, ◌∙◌, ap, ap₂, subst, inl, inr, arith, add-zero, append-nil}
use Rattle.std.specs.List.{list_all, range_with_len}
use Rattle.std.proofs.lemmas.Bool.{and_from, false≢true, or_right, true≢false}
use Rattle.dine_graph.specs.Plan.{SeenPlan, IsPlan, site_count, edges_of}
use Rattle.dine_rules.specs.declared.events.EventKind.{EventKind}
use Rattle.dine_rules.specs.declared.events.EventKind.TheVariants as event
use Rattle.dine_rules.specs.declared.letters.Letter.{Letter}
use Rattle.dine_rules.specs.declared.letters.Letter.TheVariants as letter
use Rattle.dine_rules.specs.Letters.{has_close, has_done}
use Rattle.dine_rules.specs.Links.{queue_to}
use Rattle.dine_rules.specs.Local.{LocalState, edge_at, has_no_job_left, is_thinking, meal_fails, neighbour_at, traffic_at}
use Rattle.dine_rules.specs.Steps as step
use Rattle.dine_rules.specs.Streams.{IsClosedInOrder, KeepsStreams, is_orderly}
use Rattle.dine_rules.specs.Wants.{SeenWants}
use Rattle.dine_rules.specs.World.{IsComplete, WorldState, place_of, put_to, state_of, world_after}
use Rattle.dine_rules.proofs.shared.lists.Counting.{has_close-append}
use Rattle.dine_rules.proofs.shared.links.Across.{across}
use Rattle.dine_rules.proofs.shared.links.NextLetters.{reached_allowed}
use Rattle.dine_rules.proofs.shared.links.WorldStreams.{reached_kept}
use Rattle.dine_site.specs.CoreWants.{wants_by_lists}
use Rattle.dine_site.specs.NextEvent.{may_by_itself, next_event, own_kinds}
use Rattle.dine_site.specs.Standing.{all_places, has_finished}
use Rattle.dine_waking.specs.Resting.{RestsWell}
use Rattle.dine_waking.specs.Sleeping.{AllSleepWell, ArePlacesBelow, Coming, SleepsWell, letters_coming_at}
use Rattle.dine_waking.specs.Runs.{ByActing, ByHearing, ByRinging, BySleeping, ByTaking, ByWaking, Doing, GoesOn, MaySleepBefore, RunHasEnded, HasToRing, Run, RunStep, Sleeps, HasToTake, TakesLetter, Thread, ThreadStep, HasToWake, IsToBeWoken, after_ringing, doing_after, fresh_thread, is_woken_by, may_think_on, places_heard, number_there, rings_for, thread_after_ring, takes_letters, thread_of}
use Rattle.dine_waking.proofs.Quiet.{first_is_next}
use Rattle.dine_waking.proofs.Letters.{first_at}
use Rattle.dine_waking.proofs.Queues.{event_happens, take_happens}
use Rattle.dine_waking.proofs.Asleep.{all_asleep_is_complete, all_or_one}
use Rattle.dine_waking.proofs.Bells.{Fits, InLink, IsUnrung, KeepsBell, RunKeeps}
use Rattle.dine_rules.proofs.shared.lists.Finds.{found_passes}
use Rattle.dine_waking.proofs.Waking.{leads_back}

-- ---- the sites of a complete world have finished

all_from : (test : ℕ → Bool) (a n : ℕ) → ((i : ℕ) → i < n → test (a + i) ≡ true) → list_all test (range_with_len a n) ≡ true
all_from test a zero each = refl
all_from test a (suc n) each = and_from (test a) (list_all test (range_with_len (a + 1) n)) (ap test (sym (add-zero a)) ∙ each 0 (omega arith))
    (all_from test (a + 1) n (λ i h. ap test (let e : a + 1 + i ≡ a + suc i = omega arith in e) ∙ each (suc i) (omega arith)))

-- a Close in order has a Done before it
closed_is_done : (letters : List Letter) → is_orderly letters ≡ true → has_close letters ≡ true → has_done letters ≡ true
closed_is_done [] order closed = absurd (false≢true closed)
closed_is_done (letter.Fork fork ∷ letters) order closed = closed_is_done letters order closed
closed_is_done (letter.Request edge ∷ letters) order closed = closed_is_done letters order closed
closed_is_done (letter.Done ∷ letters) order closed = refl
closed_is_done (letter.Close ∷ letters) order closed = absurd (false≢true order)

has_both : (letters : List Letter) → IsClosedInOrder letters → (has_done letters ≡ true) × (has_close letters ≡ true)
has_both letters closed =
    let close : has_close letters ≡ true = ap has_close closed.ends_in_close ∙ has_close-append closed.before_close (letter.Close ∷ []) ∙ or_right (has_close closed.before_close) true refl in
    (closed_is_done letters closed.orderly close, close)

pub complete_finished : (plan : SeenPlan) (world : WorldState) (s : ℕ) → IsPlan plan → s < site_count plan → KeepsStreams plan s (state_of world s) → IsComplete plan world → has_finished plan s (state_of world s) ≡ true
complete_finished plan world s is_plan is_site keeps complete =
    let state : LocalState = state_of world s in
    and_from (is_thinking state.phase && has_no_job_left plan s state) _ (and_from (is_thinking state.phase) (has_no_job_left plan s state) (complete.all_think s is_site) (complete.all_ate s is_site))
    (all_from (λ i. has_done (traffic_at state i).put && has_done (traffic_at state i).taken && has_close (traffic_at state i).put && has_close (traffic_at state i).taken) 0 (length state.traffic) (λ j h.
    let i : ℕ = 0 + j in
    let within : i < length (edges_of plan s) = omega (arith, h, keeps.every_place) in
    let over = across plan s i is_plan within in
    let puts = has_both (traffic_at state i).put (complete.all_closed s i is_site within) in
    let takes = has_both (put_to plan world s i) (complete.all_closed (neighbour_at plan s i) (place_of plan (neighbour_at plan s i) (edge_at plan s i)) over.is_site over.within) in
    let same : (traffic_at state i).taken ≡ put_to plan world s i = complete.all_taken s i is_site within in
    and_from (has_done (traffic_at state i).put && has_done (traffic_at state i).taken && has_close (traffic_at state i).put) (has_close (traffic_at state i).taken)
    (and_from (has_done (traffic_at state i).put && has_done (traffic_at state i).taken) (has_close (traffic_at state i).put)
    (and_from (has_done (traffic_at state i).put) (has_done (traffic_at state i).taken) puts.0 (ap has_done same ∙ takes.0)) puts.1) (ap has_close same ∙ takes.1)))

-- ---- an event that a site may do by itself happens

pub own_happens : (plan : SeenPlan) (world : WorldState) (s : ℕ) → s < site_count plan → (kind : EventKind) → may_by_itself plan s (state_of world s) kind ≡ true → (new : WorldState) × (world_after plan world (record { site = s; kind = kind }) ≡ Some new)
own_happens plan world s is_site (event.Take i) own = absurd (false≢true own)
own_happens plan world s is_site (event.Give i) own = (_, event_happens plan world s (event.Give i) (step.Give i) is_site refl own)
own_happens plan world s is_site event.End own = (_, event_happens plan world s event.End (step.End (meal_fails plan s (state_of world s))) is_site refl own)
own_happens plan world s is_site event.Begin own = (_, event_happens plan world s event.Begin step.Begin is_site refl own)
own_happens plan world s is_site event.Quit own = (_, event_happens plan world s event.Quit step.Quit is_site refl own)
own_happens plan world s is_site event.Hungry own = (_, event_happens plan world s event.Hungry step.Hungry is_site refl own)
own_happens plan world s is_site (event.Ask i) own = (_, event_happens plan world s (event.Ask i) (step.Ask i) is_site refl own)
own_happens plan world s is_site (event.Done i) own = (_, event_happens plan world s (event.Done i) (step.Done i) is_site refl own)
own_happens plan world s is_site (event.Close i) own = (_, event_happens plan world s (event.Close i) (step.Close i) is_site refl own)

-- ---- one site

-- the thread of the site can do a step
abbrev CanStep : SeenPlan → Run → ℕ → Type 0
CanStep plan run s = (new : Run) × ThreadStep plan s run new

-- The site has finished and is awake, with no ring left, or it sleeps, or it sleeps and is to be woken. Its thread does
-- not have to ring, nor to wake another.
pub record IsAtRest (plan : SeenPlan) (run : Run) (s : ℕ) : Type 0 where
  pub quiet : (place : ℕ) (letters : List Letter) → IsUnrung (thread_of run s).doing place letters → letters ≡ []
  pub wakes_none : (i : ℕ) → (thread_of run s).doing ≡ HasToWake i → ⊥
  pub rest : ((has_finished plan s (state_of run.world s) ≡ true) × (thread_of run s ≡ fresh_thread)) ⊎ (((wants : SeenWants) × ((thread_of run s).doing ≡ Sleeps wants)) ⊎ ((i : ℕ) × (i < length (edges_of plan s)) × ((thread_of run s).doing ≡ IsToBeWoken i)))

module _ (plan : SeenPlan) (is_plan : IsPlan plan) (run : Run) (keeps : RunKeeps plan run) (s : ℕ) (is_site : s < site_count plan) where
  abbrev thread : Thread
  thread = thread_of run s

  abbrev state : LocalState
  state = state_of run.world s

  abbrev keeps_here : KeepsBell plan run s
  keeps_here = keeps.sites s is_site

  -- it takes the letter for which it heard a ring
  module _ (i : ℕ) (takes : thread.doing ≡ HasToTake i) where
    pub takes_letter : (rung_for : List Coming) → keeps_here.rung_for ≡ rung_for → (new : Run) × TakesLetter plan s run new
    takes_letter [] is = absurd (let e : [] ≡ i ∷ thread.bell = sym (ap (map (λ (one : Coming). one.place)) is) ∙ keeps_here.numbers ∙ ap (λ (d : Doing). places_heard d ++ thread.bell) takes in cc)
    takes_letter (first ∷ coming) is =
        let here : first.place ≡ i = (let e : first.place ∷ map (λ (one : Coming). one.place) coming ≡ i ∷ thread.bell = sym (ap (map (λ (one : Coming). one.place)) is) ∙ keeps_here.numbers ∙ ap (λ (d : Doing). places_heard d ++ thread.bell) takes in cc) in
        let places : ArePlacesBelow (length (edges_of plan s)) (first ∷ coming) = subst (ArePlacesBelow (length (edges_of plan s))) is keeps_here.places in
        let within : i < length (edges_of plan s) = subst (λ (k : ℕ). k < length (edges_of plan s)) here places.0 in
        let link : InLink plan run s i keeps_here.rung_for = keeps_here.links i within in
        let queue : queue_to plan run.world s i ≡ first.letter ∷ (letters_coming_at i coming ++ link.left) = link.queue ∙ ap (λ (c : List Coming). letters_coming_at i c ++ link.left) is
        ∙ ap (λ (letters : List Letter). letters ++ link.left) (subst (λ (k : ℕ). letters_coming_at k (first ∷ coming) ≡ first.letter ∷ letters_coming_at k coming) here (first_at first coming)) in
        let next = first_is_next (put_to plan run.world s i) (length (traffic_at state i).taken) first.letter (letters_coming_at i coming ++ link.left) queue in
        let happens = take_happens plan is_plan run.world (reached_kept plan keeps.events run.world is_plan keeps.reached) s i is_site within first.letter (letters_coming_at i coming ++ link.left) queue
        (reached_allowed plan keeps.events run.world s i is_plan keeps.reached is_site within first.letter next.0) in
        (record { world = _; is_open = run.is_open; threads = slice_set run.threads s (record { doing = GoesOn; bell = thread.bell }) }, record { i = i; takes = takes; world = happens; as_open = refl; threads = refl })

  -- the neighbour that it has to wake is woken from here
  pub finds_woken : (i : ℕ) → thread.doing ≡ HasToWake i → (thread_of run (neighbour_at plan s i)).doing ≡ IsToBeWoken (number_there plan s i)
  finds_woken i wakes =
      let within : i < length (edges_of plan s) = subst (λ (d : Doing). Fits plan run.is_open s state keeps_here.rung_for d) wakes keeps_here.fits in
      let over = across plan s i is_plan within in
      (keeps.waking (neighbour_at plan s i) (number_there plan s i) over.is_site over.within).finds
      (ap (λ (x : ℕ). (thread_of run x).doing) over.back ∙ wakes ∙ ap HasToWake (sym (leads_back plan is_plan s i within)))

  goes_on : thread.doing ≡ GoesOn → (next : Option EventKind) → next_event plan s state ≡ next → (bell : List ℕ) → thread.bell ≡ bell → (b : Bool) → has_finished plan s state ≡ b → CanStep plan run s ⊎ IsAtRest plan run s
  goes_on on (Some kind) next bell ringing b finished =
      let happens = own_happens plan run.world s is_site kind (found_passes (may_by_itself plan s state) (own_kinds (all_places state)) kind next) in
      inl (record { world = happens.0; is_open = run.is_open; threads = slice_set run.threads s (record { doing = doing_after kind; bell = thread.bell }) }, ByActing (record { goes_on = on; kind = kind; next = next; world = happens.1; as_open = refl; threads = refl }))
  goes_on on None next (i ∷ rest) ringing b finished =
      inl (record run { threads = slice_set run.threads s (record { doing = HasToTake i; bell = rest }) }, ByHearing (record { goes_on = on; turn = ap (λ (o : Option EventKind). takes_letters o || may_think_on run.is_open o) next; i = i; front = []; rest = rest; bell = ringing; first = refl; world = refl; as_open = refl; threads = refl }))
  goes_on on None next [] ringing false finished = inl (
    record run { threads = slice_set run.threads s (record { doing = Sleeps (wants_by_lists plan s state); bell = thread.bell }) },
    BySleeping (record {
      goes_on = on;
      idle = inl next;
      unfinished = finished;
      put_off = λ i some. absurd (omega (arith, some, ap (rings_for i) ringing));
      once = λ i. omega (arith, ap (rings_for i) ringing);
      world = refl;
      as_open = refl;
      threads = refl;
    }),
  )
  goes_on on None next [] ringing true finished = inr (record {
    quiet = λ place letters unrung. subst (λ (d : Doing). IsUnrung d place letters) on unrung;
    wakes_none = λ i is. let e : GoesOn ≡ HasToWake i = sym on ∙ is in cc;
    rest = inl (finished, ap₂ (λ (d : Doing) (numbers : List ℕ). record { doing = d; bell = numbers }) on ringing);
  })

  by_doing : (doing : Doing) → thread.doing ≡ doing → CanStep plan run s ⊎ IsAtRest plan run s
  by_doing GoesOn is = goes_on is (next_event plan s state) refl thread.bell refl (has_finished plan s state) refl
  by_doing (HasToRing i kind) is = inl (
    record run {
      threads = slice_set
          (slice_set run.threads s (record { doing = after_ringing (is_woken_by false (number_there plan s i) kind (thread_of run (neighbour_at plan s i)).doing) i; bell = thread.bell }))
          (neighbour_at plan s i) (thread_after_ring false (number_there plan s i) kind (thread_of run (neighbour_at plan s i)));
    },
    ByRinging (record { i = i; kind = kind; anyway = false; rings = is; world = refl; as_open = refl; threads = refl }),
  )
  by_doing (HasToWake i) is = inl (
    record run {
      threads = slice_set (slice_set run.threads s (record { doing = GoesOn; bell = thread.bell })) (neighbour_at plan s i) (record { doing = GoesOn; bell = (thread_of run (neighbour_at plan s i)).bell });
    },
    ByWaking (record { i = i; wakes = is; woken = finds_woken i is; world = refl; as_open = refl; threads = refl }),
  )
  by_doing (HasToTake i) is = let taken = takes_letter i is keeps_here.rung_for refl in inl (taken.0, ByTaking taken.1)
  by_doing (Sleeps wants) is = inr (record {
    quiet = λ place letters unrung. subst (λ (d : Doing). IsUnrung d place letters) is unrung;
    wakes_none = λ i wakes. let e : Sleeps wants ≡ HasToWake i = sym is ∙ wakes in cc;
    rest = inr (inl (wants, is));
  })
  by_doing (IsToBeWoken i) is = inr (record {
    quiet = λ place letters unrung. subst (λ (d : Doing). IsUnrung d place letters) is unrung;
    wakes_none = λ j wakes. let e : IsToBeWoken i ≡ HasToWake j = sym is ∙ wakes in cc;
    rest = inr (inr (i, subst (λ (d : Doing). Fits plan run.is_open s state keeps_here.rung_for d) is keeps_here.fits, is));
  })

  step_or_rest : CanStep plan run s ⊎ IsAtRest plan run s
  step_or_rest = by_doing thread.doing refl

-- ---- all sites

-- who sleeps in a run that is not open can do nothing
idle_if_shut : (is_open : Bool) (next : Option EventKind) → is_open ≡ false → MaySleepBefore is_open next → next ≡ None
idle_if_shut is_open next shut may = elim may [
  | inl none ↦ none
  | inr opened ↦ absurd (true≢false (sym opened.0 ∙ shut))
]

-- in any run, or it may grow hungry
idle_or_hungry : (is_open : Bool) (next : Option EventKind) → MaySleepBefore is_open next → (next ≡ None) ⊎ (next ≡ Some event.Hungry)
idle_or_hungry is_open next may = elim may [
  | inl none ↦ inl none
  | inr opened ↦ inr opened.1
]

module _ (plan : SeenPlan) (is_plan : IsPlan plan) (run : Run) (keeps : RunKeeps plan run) (at_rest : (s : ℕ) → s < site_count plan → IsAtRest plan run s) where
  pub rests_well : (s : ℕ) → s < site_count plan → (wants : SeenWants) → (thread_of run s).doing ≡ Sleeps wants → RestsWell plan run.world s
  rests_well s is_site wants is =
      let here : KeepsBell plan run s = keeps.sites s is_site in
      let fits : Fits plan run.is_open s (state_of run.world s) here.rung_for (Sleeps wants) = subst (λ (d : Doing). Fits plan run.is_open s (state_of run.world s) here.rung_for d) is here.fits in
      record {
        idle = idle_or_hungry run.is_open (next_event plan s (state_of run.world s)) fits.0;
        coming = here.rung_for;
        last = wants;
        places = here.places;
        in_links = λ i within.
            let link : InLink plan run s i here.rung_for = here.links i within in
            let over = across plan s i is_plan within in
            sym (link.queue ∙ ap (λ (letters : List Letter). letters_coming_at i here.rung_for ++ letters)
            ((at_rest (neighbour_at plan s i) over.is_site).quiet (place_of plan (neighbour_at plan s i) (edge_at plan s i)) link.left link.unrung) ∙ append-nil (letters_coming_at i here.rung_for));
        unwanted = fits.2;
      }

  -- who is woken has a neighbour that has to wake it
  pub nobody_woken : (s : ℕ) → s < site_count plan → (i : ℕ) → i < length (edges_of plan s) → (thread_of run s).doing ≡ IsToBeWoken i → ⊥
  nobody_woken s is_site i within woken = (at_rest (neighbour_at plan s i) (across plan s i is_plan within).is_site).wakes_none
      (place_of plan (neighbour_at plan s i) (edge_at plan s i)) ((keeps.waking s i is_site within).comes woken)

  -- who sleeps has not finished
  pub sleeps_unfinished : (s : ℕ) → s < site_count plan → (wants : SeenWants) → (thread_of run s).doing ≡ Sleeps wants → has_finished plan s (state_of run.world s) ≡ false
  sleeps_unfinished s is_site wants is =
      let here : KeepsBell plan run s = keeps.sites s is_site in
      let fits : Fits plan run.is_open s (state_of run.world s) here.rung_for (Sleeps wants) = subst (λ (d : Doing). Fits plan run.is_open s (state_of run.world s) here.rung_for d) is here.fits in
      fits.1

  pub complete_has_ended : IsComplete plan run.world → RunHasEnded plan run
  complete_has_ended complete = record { complete = complete; finished = all_finished; awake = all_awake }
    where
      all_finished : (s : ℕ) → s < site_count plan → has_finished plan s (state_of run.world s) ≡ true
      all_finished s is_site = complete_finished plan run.world s is_plan is_site ((reached_kept plan keeps.events run.world is_plan keeps.reached).keeps s is_site) complete

      all_awake : (s : ℕ) → s < site_count plan → thread_of run s ≡ fresh_thread
      all_awake s is_site = elim (at_rest s is_site).rest [
        | inl w ↦ w.1
        | inr (inl w) ↦ absurd (true≢false (sym (all_finished s is_site) ∙ sleeps_unfinished s is_site w.0 w.1))
        | inr (inr w) ↦ absurd (nobody_woken s is_site w.0 w.1 w.2)
      ]

module _ (plan : SeenPlan) (is_plan : IsPlan plan) (run : Run) (keeps : RunKeeps plan run) (shut : run.is_open ≡ false) where
  module _ (at_rest : (s : ℕ) → s < site_count plan → IsAtRest plan run s) where
    sleeps_well : (s : ℕ) → s < site_count plan → (wants : SeenWants) → (thread_of run s).doing ≡ Sleeps wants → SleepsWell plan run.world s
    sleeps_well s is_site wants is =
        let here : KeepsBell plan run s = keeps.sites s is_site in
        let fits : Fits plan run.is_open s (state_of run.world s) here.rung_for (Sleeps wants) = subst (λ (d : Doing). Fits plan run.is_open s (state_of run.world s) here.rung_for d) is here.fits in
        let rests : RestsWell plan run.world s = rests_well plan is_plan run keeps at_rest s is_site wants is in
        record {
          idle = idle_if_shut run.is_open (next_event plan s (state_of run.world s)) shut fits.0;
          coming = rests.coming;
          last = rests.last;
          places = rests.places;
          in_links = rests.in_links;
          unwanted = rests.unwanted;
        }

    all_sleep : AllSleepWell plan run.world
    all_sleep s is_site = elim (at_rest s is_site).rest [
      | inl w ↦ inl w.0
      | inr (inl w) ↦ inr (sleeps_well s is_site w.0 w.1)
      | inr (inr w) ↦ absurd (nobody_woken plan is_plan run keeps at_rest s is_site w.0 w.1 w.2)
    ]

    ended : RunHasEnded plan run
    ended = complete_has_ended plan is_plan run keeps at_rest (all_asleep_is_complete plan keeps.events run.world is_plan keeps.reached all_sleep)

  pub step_or_end : ((new : Run) × RunStep plan run new) ⊎ RunHasEnded plan run
  step_or_end = elim (all_or_one {P = IsAtRest plan run} {Q = CanStep plan run} (site_count plan) (λ s is_site. swapped (step_or_rest plan is_plan run keeps s is_site))) [
    | inl at_rest ↦ inr (ended at_rest)
    | inr w ↦ inl (w.2.0, record { site = w.0; is_site = w.1; step = w.2.1 })
  ]
    where
      swapped : {A B : Type 0} → A ⊎ B → B ⊎ A
      swapped (inl a) = inr a
      swapped (inr b) = inl b
