-- What every open run keeps: what a run keeps, and that each thread agrees with its door.
use Rattle.std.proofs.Common.{◌≡◌, ◌≢◌, ◌⊎◌, ℕ, zero, suc, ◌<◌, Bool, true, false, ◌++◌, length, None, Some, refl, sym, ◌∙◌, ap, subst, inl, inr, arith}
use Rattle.std.proofs.lemmas.Bool.{cases_eq}
use Rattle.std.proofs.lemmas.List.{get_or-set_other}
use Rattle.dine_graph.specs.Plan.{SeenPlan, IsPlan, site_count, edges_of}
use Rattle.dine_rules.specs.declared.events.EventKind.{EventKind}
use Rattle.dine_rules.specs.declared.events.EventKind.TheVariants as event
use Rattle.dine_rules.specs.Local.{LocalState, edge_at, neighbour_at}
use Rattle.dine_rules.specs.Steps.{after}
use Rattle.dine_rules.specs.Wants.{SeenWants}
use Rattle.dine_rules.specs.World.{WorldState, no_state, place_of, state_of, world_after}
use Rattle.dine_rules.proofs.shared.links.Across.{across}
use Rattle.dine_rules.proofs.shared.links.WorldStreams.{event_is_step, neighbour_differs}
use Rattle.dine_rules.proofs.shared.one_place.Placed.{placed}
use Rattle.dine_site.specs.CoreWants.{wants_by_lists}
use Rattle.dine_site.specs.NextEvent.{next_event}
use Rattle.dine_waking.specs.Doors.{Door, DoorStep, LeadsByDoorSteps, Thinker, woken}
use Rattle.dine_waking.specs.Doors as at_door
use Rattle.dine_waking.specs.OpenRuns.{ActsOnCall, AsksAtDoor, Due, DueStep, Free, FreeStep, HearsDoorbell, HearsOnCall, LeadsByOpenSteps, OpenRun, OpenStep, RingsDoorbell, RingsOnCall, SleepsOnCall, TakesOnCall, ToAct, ToAsk, ToHear, ToHearDoorbell, ToRing, ToRingDoorbell, ToSleep, ToTake, ToWake, WakesOnCall, first_open_run}
use Rattle.dine_waking.specs.Runs.{ByActing, ByDoorbell, ByHearing, ByRinging, BySleeping, ByTaking, ByWaking, Doing, GoesOn, HasToRing, HasToTake, HasToWake, IsToBeWoken, LeadsBySteps, Run, RunStep, Sleeps, Thread, after_ringing, doing_after, first_moment, is_woken_by, thread_after_ring, thread_of}
use Rattle.dine_waking.proofs.Agreement.{Agrees, asking_agrees, busy_agrees, busy_if, free_thinker, hearing_busy, is_asleep, is_off, off_after, off_ringing, rung_agrees, woken_agrees, woken_busy}
use Rattle.dine_waking.proofs.Bells.{Fits, KeepsBell, RunKeeps, start_fresh, start_keeps, thread_elsewhere, thread_here, two_here, two_other, two_there}
use Rattle.dine_waking.proofs.Bounded.{step_keeps, step_opens}

-- ---- what the steps are, inside and at the doors

-- a step that is due is one of the run, or leaves it as it is
pub due_run : (plan : SeenPlan) (s : ℕ) (old new : OpenRun) → s < site_count plan → DueStep plan s old new → RunStep plan old.run new.run ⊎ (new.run ≡ old.run)
due_run plan s old new is_site (ToAct a) = inl (record { site = s; is_site = is_site; step = ByActing a.acts })
due_run plan s old new is_site (ToRing r) = inl (record { site = s; is_site = is_site; step = ByRinging r.rings })
due_run plan s old new is_site (ToWake w) = inl (record { site = s; is_site = is_site; step = ByWaking w.wakes })
due_run plan s old new is_site (ToHear h) = inl (record { site = s; is_site = is_site; step = ByHearing h.hears })
due_run plan s old new is_site (ToTake t) = inl (record { site = s; is_site = is_site; step = ByTaking t.takes })
due_run plan s old new is_site (ToSleep f) = inl (record { site = s; is_site = is_site; step = BySleeping f.sleeps })
due_run plan s old new is_site (ToAsk a) = inr a.here.run
due_run plan s old new is_site (ToHearDoorbell h) = inr h.here.run
due_run plan s old new is_site (ToRingDoorbell r) = elim r.wakes [
  | inl called ↦ inl (record { site = s; is_site = is_site; step = ByDoorbell called })
  | inr awake ↦ inr awake.1
]

pub open_run : (plan : SeenPlan) (old new : OpenRun) → OpenStep plan old new → RunStep plan old.run new.run ⊎ (new.run ≡ old.run)
open_run plan old new one = elim one.step [
  | Due due ↦ due_run plan one.site old new one.is_site due
  | Free free ↦ inr free.here.run
]

-- a step at one door, and none at the others
one_door : (old new : OpenRun) (s t : ℕ) → DoorStep (old.doors s) (new.doors s) ⊎ (new.doors s ≡ old.doors s) → ((u : ℕ) → (u ≡ s → ⊥) → new.doors u ≡ old.doors u) → DoorStep (old.doors t) (new.doors t) ⊎ (new.doors t ≡ old.doors t)
one_door old new s t here others = elim (cases_eq t s) [
  | inl same ↦ subst (λ (u : ℕ). DoorStep (old.doors u) (new.doors u) ⊎ (new.doors u ≡ old.doors u)) (sym same) here
  | inr other ↦ inr (others t other)
]

due_door : (plan : SeenPlan) (s t : ℕ) (old new : OpenRun) → DueStep plan s old new → DoorStep (old.doors t) (new.doors t) ⊎ (new.doors t ≡ old.doors t)
due_door plan s t old new (ToAct a) = inr (a.doors t)
due_door plan s t old new (ToRing r) = inr (r.doors t)
due_door plan s t old new (ToWake w) = one_door old new (neighbour_at plan s w.wakes.i) t (inl (at_door.GoesOn w.door)) w.others
due_door plan s t old new (ToHear h) = one_door old new s t (inl (at_door.GoesOn h.door)) h.others
due_door plan s t old new (ToTake x) = inr (x.doors t)
due_door plan s t old new (ToSleep f) = one_door old new s t (elim f.door [
  | inl idle ↦ inr idle.2
  | inr thinks ↦ inl (at_door.FallsAsleep thinks.1 f.silent thinks.2)
]) f.others
due_door plan s t old new (ToAsk a) = one_door old new s t (inl a.here.step) a.here.others
due_door plan s t old new (ToHearDoorbell h) = one_door old new s t (inl h.here.step) h.here.others
due_door plan s t old new (ToRingDoorbell r) = one_door old new s t (inl (at_door.Rings r.rest r.owed r.door)) r.others

open_door : (plan : SeenPlan) (t : ℕ) (old new : OpenRun) → OpenStep plan old new → DoorStep (old.doors t) (new.doors t) ⊎ (new.doors t ≡ old.doors t)
open_door plan t old new one = elim one.step [
  | Due due ↦ due_door plan one.site t old new due
  | Free free ↦ one_door old new one.site t (inl free.here.step) free.here.others
]

-- so are many steps
pub open_leads : (plan : SeenPlan) (n : ℕ) (old new : OpenRun) → LeadsByOpenSteps plan n old new → (m : ℕ) × LeadsBySteps plan m old.run new.run
open_leads plan zero old new same = (0, ap (λ (at : OpenRun). at.run) same)
open_leads plan (suc n) old new w =
    let rest = open_leads plan n w.0 new w.2 in
    elim (open_run plan old w.0 w.1) [
      | inl step ↦ (suc rest.0, (w.0.run, step, rest.1))
      | inr same ↦ (rest.0, subst (λ (run : Run). LeadsBySteps plan rest.0 run new.run) same rest.1)
    ]

pub open_door_leads : (plan : SeenPlan) (t n : ℕ) (old new : OpenRun) → LeadsByOpenSteps plan n old new → (m : ℕ) × LeadsByDoorSteps m (old.doors t) (new.doors t)
open_door_leads plan t zero old new same = (0, ap (λ (at : OpenRun). at.doors t) same)
open_door_leads plan t (suc n) old new w =
    let rest = open_door_leads plan t n w.0 new w.2 in
    elim (open_door plan t old w.0 w.1) [
      | inl step ↦ (suc rest.0, (w.0.doors t, step, rest.1))
      | inr same ↦ (rest.0, subst (λ (door : Door). LeadsByDoorSteps rest.0 door (new.doors t)) same rest.1)
    ]

-- ---- what is kept

-- the thread of a site and its door agree
abbrev pub AgreesAt : SeenPlan → OpenRun → ℕ → Type 0
AgreesAt plan at t = Agrees plan t (thread_of at.run t).doing (state_of at.run.world t) (at.doors t).thinker

pub record OpenKeeps (plan : SeenPlan) (at : OpenRun) : Type 0 where
  pub run : RunKeeps plan at.run
  pub opens : at.run.is_open ≡ true
  pub agree : (t : ℕ) → t < site_count plan → AgreesAt plan at t

pub start_agrees : (plan : SeenPlan) → IsPlan plan → OpenKeeps plan (first_open_run plan)
start_agrees plan is_plan = record {
  run = start_keeps plan is_plan true;
  opens = refl;
  agree = λ t is_t. busy_agrees plan t (thread_of (first_moment true plan) t).doing (state_of (first_moment true plan).world t) at_door.Busy refl (ap (λ (thread : Thread). is_asleep thread.doing) (start_fresh plan is_plan true t));
}

-- nothing changes at a site
agree_stays : (plan : SeenPlan) (old new : OpenRun) (t : ℕ) → (thread_of new.run t).doing ≡ (thread_of old.run t).doing → state_of new.run.world t ≡ state_of old.run.world t → (new.doors t).thinker ≡ (old.doors t).thinker → AgreesAt plan old t → AgreesAt plan new t
agree_stays plan old new t doing state thinker agrees =
    subst (λ (d : Doing). Agrees plan t d (state_of new.run.world t) (new.doors t).thinker) (sym doing)
    (subst (λ (x : LocalState). Agrees plan t (thread_of old.run t).doing x (new.doors t).thinker) (sym state)
    (subst (λ (x : Thinker). Agrees plan t (thread_of old.run t).doing (state_of old.run.world t) x) (sym thinker) agrees))

-- an event of one site leaves the others as they are
others_state : (plan : SeenPlan) (world new : WorldState) (x : ℕ) (kind : EventKind) → world_after plan world (record { site = x; kind = kind }) ≡ Some new → (t : ℕ) → t ≢ x → state_of new t ≡ state_of world t
others_state plan world new x kind h t other =
    let w = event_is_step plan world (record { site = x; kind = kind }) new h in
    ap (λ (world : WorldState). state_of world t) w.changes ∙ get_or-set_other world x t (after plan x (state_of world x) w.step) no_state other

-- who never is a sleeper, is none
is_awake : (doing : Doing) → ((wants : SeenWants) → doing ≡ Sleeps wants → ⊥) → is_asleep doing ≡ false
is_awake GoesOn awake = refl
is_awake (HasToRing i kind) awake = refl
is_awake (HasToWake i) awake = refl
is_awake (HasToTake i) awake = refl
is_awake (IsToBeWoken i) awake = refl
is_awake (Sleeps wants) awake = absurd (awake wants refl)

module _ (plan : SeenPlan) (is_plan : IsPlan plan) (old new : OpenRun) (keeps : OpenKeeps plan old) (x : ℕ) (is_x : x < site_count plan) where
  has_thread : x < length old.run.threads
  has_thread = omega (arith, keeps.run.threads)

  -- all sites, where one is told apart
  each : AgreesAt plan new x → ((t : ℕ) → t < site_count plan → t ≢ x → AgreesAt plan new t) → (t : ℕ) → t < site_count plan → AgreesAt plan new t
  each here others t is_t = elim (cases_eq t x) [
    | inl same ↦ subst (AgreesAt plan new) (sym same) here
    | inr other ↦ others t is_t other
  ]

  agree_acts : ActsOnCall plan x old new → (t : ℕ) → t < site_count plan → AgreesAt plan new t
  agree_acts a =
      let actor : Thread = record { doing = doing_after a.acts.kind; bell = (thread_of old.run x).bell } in
      each (busy_agrees plan x (thread_of new.run x).doing (state_of new.run.world x) (new.doors x).thinker (ap (λ (door : Door). door.thinker) (a.doors x) ∙ a.busy)
      (ap (λ (thread : Thread). is_asleep thread.doing) (thread_here old.run new.run x actor a.acts.threads has_thread) ∙ off_after a.acts.kind))
      (λ t is_t other. agree_stays plan old new t (ap (λ (thread : Thread). thread.doing) (thread_elsewhere old.run new.run x actor a.acts.threads t other)) (others_state plan old.run.world new.run.world x a.acts.kind a.acts.world t other)
      (ap (λ (door : Door). door.thinker) (a.doors t)) (keeps.agree t is_t))

  -- the thread has something else to do
  busy_at : (doing : Doing) → (thread_of old.run x).doing ≡ doing → Agrees plan x doing (state_of old.run.world x) (old.doors x).thinker
  busy_at doing is = subst (λ (d : Doing). Agrees plan x d (state_of old.run.world x) (old.doors x).thinker) is (keeps.agree x is_x)

  agree_takes : TakesOnCall plan x old new → (t : ℕ) → t < site_count plan → AgreesAt plan new t
  agree_takes h =
      let taker : Thread = record { doing = GoesOn; bell = (thread_of old.run x).bell } in
      let busy : (old.doors x).thinker ≡ at_door.Busy = busy_if plan x (HasToTake h.takes.i) (state_of old.run.world x) (old.doors x).thinker refl (λ is. let e : HasToTake h.takes.i ≡ GoesOn = is in cc) (busy_at (HasToTake h.takes.i) h.takes.takes) in
      each (busy_agrees plan x (thread_of new.run x).doing (state_of new.run.world x) (new.doors x).thinker (ap (λ (door : Door). door.thinker) (h.doors x) ∙ busy)
      (ap (λ (thread : Thread). is_asleep thread.doing) (thread_here old.run new.run x taker h.takes.threads has_thread)))
      (λ t is_t other. agree_stays plan old new t (ap (λ (thread : Thread). thread.doing) (thread_elsewhere old.run new.run x taker h.takes.threads t other)) (others_state plan old.run.world new.run.world x (event.Take h.takes.i) h.takes.world t other)
      (ap (λ (door : Door). door.thinker) (h.doors t)) (keeps.agree t is_t))

  -- nothing changes in the world
  same_state : new.run.world ≡ old.run.world → (t : ℕ) → state_of new.run.world t ≡ state_of old.run.world t
  same_state same t = ap (λ (world : WorldState). state_of world t) same

  agree_hears : HearsOnCall plan x old new → (t : ℕ) → t < site_count plan → AgreesAt plan new t
  agree_hears h =
      let hearer : Thread = record { doing = HasToTake h.hears.i; bell = h.hears.front ++ h.hears.rest } in
      each (busy_agrees plan x (thread_of new.run x).doing (state_of new.run.world x) (new.doors x).thinker (ap (λ (door : Door). door.thinker) h.door)
      (ap (λ (thread : Thread). is_asleep thread.doing) (thread_here old.run new.run x hearer h.hears.threads has_thread)))
      (λ t is_t other. agree_stays plan old new t (ap (λ (thread : Thread). thread.doing) (thread_elsewhere old.run new.run x hearer h.hears.threads t other)) (same_state h.hears.world t)
      (ap (λ (door : Door). door.thinker) (h.others t other)) (keeps.agree t is_t))

  agree_sleeps : SleepsOnCall plan x old new → (t : ℕ) → t < site_count plan → AgreesAt plan new t
  agree_sleeps f =
      let state : LocalState = state_of old.run.world x in
      let wants = wants_by_lists plan x state in
      let sleeper : Thread = record { doing = Sleeps wants; bell = (thread_of old.run x).bell } in
      let is : (thread_of new.run x).doing ≡ Sleeps wants = ap (λ (thread : Thread). thread.doing) (thread_here old.run new.run x sleeper f.sleeps.threads has_thread) in
      let same : next_event plan x (state_of new.run.world x) ≡ next_event plan x state = ap (next_event plan x) (same_state f.sleeps.world x) in
      each (elim f.door [
        | inl idle ↦ record {
          asleep = λ h. absurd (let e : at_door.Busy ≡ at_door.Sleeps = sym idle.1 ∙ sym (ap (λ (door : Door). door.thinker) idle.2) ∙ h in cc);
          thinks = λ h. absurd (let e : at_door.Busy ≡ at_door.Thinks = sym idle.1 ∙ sym (ap (λ (door : Door). door.thinker) idle.2) ∙ h in cc);
          thinking = λ h. absurd (let e : at_door.Busy ≡ at_door.Thinks = sym idle.1 ∙ sym (ap (λ (door : Door). door.thinker) idle.2) ∙ h in cc);
          rests = λ w h next. absurd (let e : None ≡ Some event.Hungry = sym idle.0 ∙ sym same ∙ next in cc);
        }
        | inr thinks ↦
            let thinker : (new.doors x).thinker ≡ at_door.Sleeps = ap (λ (door : Door). door.thinker) thinks.2 in
            record {
              asleep = λ h. ap is_off is;
              thinks = λ h. absurd (let e : at_door.Sleeps ≡ at_door.Thinks = sym thinker ∙ h in cc);
              thinking = λ h. absurd (let e : at_door.Sleeps ≡ at_door.Thinks = sym thinker ∙ h in cc);
              rests = λ w h next. thinker;
            }
      ])
      (λ t is_t other. agree_stays plan old new t (ap (λ (thread : Thread). thread.doing) (thread_elsewhere old.run new.run x sleeper f.sleeps.threads t other)) (same_state f.sleeps.world t)
      (ap (λ (door : Door). door.thinker) (f.others t other)) (keeps.agree t is_t))

  -- nothing changes in the run
  run_stays : new.run ≡ old.run → (t : ℕ) → ((thread_of new.run t).doing ≡ (thread_of old.run t).doing) × (state_of new.run.world t ≡ state_of old.run.world t)
  run_stays same t = (ap (λ (run : Run). (thread_of run t).doing) same, ap (λ (run : Run). state_of run.world t) same)

  agree_elsewhere : new.run ≡ old.run → ((t : ℕ) → (t ≡ x → ⊥) → new.doors t ≡ old.doors t) → (t : ℕ) → t < site_count plan → t ≢ x → AgreesAt plan new t
  agree_elsewhere same others t is_t other = agree_stays plan old new t (run_stays same t).0 (run_stays same t).1 (ap (λ (door : Door). door.thinker) (others t other)) (keeps.agree t is_t)

  agree_asks : AsksAtDoor plan x old new → (t : ℕ) → t < site_count plan → AgreesAt plan new t
  agree_asks a =
      let same = run_stays a.here.run x in
      each (subst (λ (d : Doing). Agrees plan x d (state_of new.run.world x) (new.doors x).thinker) (sym (same.0 ∙ a.goes_on))
      (asking_agrees plan x (state_of new.run.world x) (old.doors x) (new.doors x) a.here.step a.asks (ap (next_event plan x) same.1 ∙ a.next)))
      (agree_elsewhere a.here.run a.here.others)

  agree_hears_doorbell : HearsDoorbell x old new → (t : ℕ) → t < site_count plan → AgreesAt plan new t
  agree_hears_doorbell h = each (busy_agrees plan x (thread_of new.run x).doing (state_of new.run.world x) (new.doors x).thinker (hearing_busy (old.doors x) (new.doors x) h.here.step h.hears)
      (ap is_asleep ((run_stays h.here.run x).0 ∙ h.goes_on))) (agree_elsewhere h.here.run h.here.others)

  agree_free : FreeStep x old new → (t : ℕ) → t < site_count plan → AgreesAt plan new t
  agree_free f = each (agree_stays plan old new x (run_stays f.here.run x).0 (run_stays f.here.run x).1 (free_thinker (old.doors x) (new.doors x) f.here.step f.free) (keeps.agree x is_x))
      (agree_elsewhere f.here.run f.here.others)

  agree_rings_doorbell : RingsDoorbell plan x old new → (t : ℕ) → t < site_count plan → AgreesAt plan new t
  agree_rings_doorbell r =
      let thinker : (new.doors x).thinker ≡ woken (old.doors x).thinker = ap (λ (door : Door). door.thinker) r.door in
      elim r.wakes [
        | inl called ↦
            let awake : Thread = record { doing = GoesOn; bell = (thread_of old.run x).bell } in
            each (busy_agrees plan x (thread_of new.run x).doing (state_of new.run.world x) (new.doors x).thinker (thinker ∙ woken_busy plan x called.wants (state_of old.run.world x) (old.doors x).thinker (busy_at (Sleeps called.wants) called.sleeps))
            (ap (λ (thread : Thread). is_asleep thread.doing) (thread_here old.run new.run x awake called.threads has_thread)))
            (λ t is_t other. agree_stays plan old new t (ap (λ (thread : Thread). thread.doing) (thread_elsewhere old.run new.run x awake called.threads t other)) (same_state called.world t)
            (ap (λ (door : Door). door.thinker) (r.others t other)) (keeps.agree t is_t))
        | inr awake ↦
            let same = run_stays awake.1 x in
            each (subst (λ (d : Doing). Agrees plan x d (state_of new.run.world x) (new.doors x).thinker) (sym same.0)
            (subst (λ (s : LocalState). Agrees plan x (thread_of old.run x).doing s (new.doors x).thinker) (sym same.1)
            (subst (λ (y : Thinker). Agrees plan x (thread_of old.run x).doing (state_of old.run.world x) y) (sym thinker)
            (woken_agrees plan x (thread_of old.run x).doing (state_of old.run.world x) (old.doors x).thinker (is_awake (thread_of old.run x).doing awake.0) (keeps.agree x is_x)))))
            (agree_elsewhere awake.1 r.others)
      ]

  keeps_here : KeepsBell plan old.run x
  keeps_here = keeps.run.sites x is_x

  agree_wakes : WakesOnCall plan x old new → (t : ℕ) → t < site_count plan → AgreesAt plan new t
  agree_wakes w =
      let i : ℕ = w.wakes.i in
      let within : i < length (edges_of plan x) = subst (λ (d : Doing). Fits plan old.run.is_open x (state_of old.run.world x) keeps_here.rung_for d) w.wakes.wakes keeps_here.fits in
      let there : ℕ = neighbour_at plan x i in
      let over = across plan x i is_plan within in
      let apart : there ≢ x = neighbour_differs plan x i (placed plan x i is_plan within) in
      let waker : Thread = record { doing = GoesOn; bell = (thread_of old.run x).bell } in
      let awake : Thread = record { doing = GoesOn; bell = (thread_of old.run there).bell } in
      let has_there : there < length old.run.threads = omega (arith, keeps.run.threads, over.is_site) in
      let busy : (old.doors x).thinker ≡ at_door.Busy = busy_if plan x (HasToWake i) (state_of old.run.world x) (old.doors x).thinker refl (λ is. let e : HasToWake i ≡ GoesOn = is in cc) (busy_at (HasToWake i) w.wakes.wakes) in
      each (busy_agrees plan x (thread_of new.run x).doing (state_of new.run.world x) (new.doors x).thinker (ap (λ (door : Door). door.thinker) (w.others x (λ same. apart (sym same))) ∙ busy)
      (ap (λ (thread : Thread). is_asleep thread.doing) (two_here old.run new.run x there waker awake w.wakes.threads apart has_thread)))
      (λ t is_t other. elim (cases_eq t there) [
        | inl same ↦ subst (AgreesAt plan new) (sym same) (busy_agrees plan there (thread_of new.run there).doing (state_of new.run.world there) (new.doors there).thinker (ap (λ (door : Door). door.thinker) w.door)
            (ap (λ (thread : Thread). is_asleep thread.doing) (two_there old.run new.run x there waker awake w.wakes.threads apart has_there)))
        | inr third ↦ agree_stays plan old new t (ap (λ (thread : Thread). thread.doing) (two_other old.run new.run x there waker awake w.wakes.threads apart t other third)) (same_state w.wakes.world t)
            (ap (λ (door : Door). door.thinker) (w.others t third)) (keeps.agree t is_t)
      ])

  agree_rings : RingsOnCall plan x old new → (t : ℕ) → t < site_count plan → AgreesAt plan new t
  agree_rings r =
      let i : ℕ = r.rings.i in
      let within : i < length (edges_of plan x) = subst (λ (d : Doing). Fits plan old.run.is_open x (state_of old.run.world x) keeps_here.rung_for d) r.rings.rings keeps_here.fits in
      let there : ℕ = neighbour_at plan x i in
      let number : ℕ = place_of plan (neighbour_at plan x i) (edge_at plan x i) in
      let over = across plan x i is_plan within in
      let apart : there ≢ x = neighbour_differs plan x i (placed plan x i is_plan within) in
      let wakes : Bool = is_woken_by r.rings.anyway number r.rings.kind (thread_of old.run there).doing in
      let ringer : Thread = record { doing = after_ringing wakes i; bell = (thread_of old.run x).bell } in
      let rung : Thread = thread_after_ring r.rings.anyway number r.rings.kind (thread_of old.run there) in
      let has_there : there < length old.run.threads = omega (arith, keeps.run.threads, over.is_site) in
      let busy : (old.doors x).thinker ≡ at_door.Busy = busy_if plan x (HasToRing i r.rings.kind) (state_of old.run.world x) (old.doors x).thinker refl (λ is. let e : HasToRing i r.rings.kind ≡ GoesOn = is in cc) (busy_at (HasToRing i r.rings.kind) r.rings.rings) in
      each (busy_agrees plan x (thread_of new.run x).doing (state_of new.run.world x) (new.doors x).thinker (ap (λ (door : Door). door.thinker) (r.doors x) ∙ busy)
      (ap (λ (thread : Thread). is_asleep thread.doing) (two_here old.run new.run x there ringer rung r.rings.threads apart has_thread) ∙ off_ringing wakes i))
      (λ t is_t other. elim (cases_eq t there) [
        | inl same ↦ subst (AgreesAt plan new) (sym same)
            (subst (λ (d : Doing). Agrees plan there d (state_of new.run.world there) (new.doors there).thinker) (sym (ap (λ (thread : Thread). thread.doing) (two_there old.run new.run x there ringer rung r.rings.threads apart has_there)))
            (subst (λ (s : LocalState). Agrees plan there rung.doing s (new.doors there).thinker) (sym (same_state r.rings.world there))
            (subst (λ (y : Thinker). Agrees plan there rung.doing (state_of old.run.world there) y) (sym (ap (λ (door : Door). door.thinker) (r.doors there)))
            (rung_agrees plan there (state_of old.run.world there) (old.doors there).thinker r.rings.anyway number r.rings.kind (thread_of old.run there).doing (keeps.agree there over.is_site)))))
        | inr third ↦ agree_stays plan old new t (ap (λ (thread : Thread). thread.doing) (two_other old.run new.run x there ringer rung r.rings.threads apart t other third)) (same_state r.rings.world t)
            (ap (λ (door : Door). door.thinker) (r.doors t)) (keeps.agree t is_t)
      ])

  agree_due : DueStep plan x old new → (t : ℕ) → t < site_count plan → AgreesAt plan new t
  agree_due (ToAct a) = agree_acts a
  agree_due (ToRing r) = agree_rings r
  agree_due (ToWake w) = agree_wakes w
  agree_due (ToHear h) = agree_hears h
  agree_due (ToTake t) = agree_takes t
  agree_due (ToSleep f) = agree_sleeps f
  agree_due (ToAsk a) = agree_asks a
  agree_due (ToHearDoorbell h) = agree_hears_doorbell h
  agree_due (ToRingDoorbell r) = agree_rings_doorbell r

-- ---- many steps

module _ (plan : SeenPlan) (is_plan : IsPlan plan) where
  pub open_step_keeps : (old new : OpenRun) → OpenKeeps plan old → OpenStep plan old new → OpenKeeps plan new
  open_step_keeps old new keeps one =
      let agree : (t : ℕ) → t < site_count plan → AgreesAt plan new t = elim one.step [
        | Due due ↦ agree_due plan is_plan old new keeps one.site one.is_site due
        | Free free ↦ agree_free plan is_plan old new keeps one.site one.is_site free
      ] in
      elim (open_run plan old new one) [
        | inl step ↦ record {
          run = step_keeps plan is_plan old.run new.run keeps.run step.site step.is_site step.step;
          opens = step_opens plan is_plan old.run new.run keeps.run step.site step.is_site step.step ∙ keeps.opens;
          agree = agree;
        }
        | inr same ↦ record {
          run = subst (RunKeeps plan) (sym same) keeps.run;
          opens = ap (λ (run : Run). run.is_open) same ∙ keeps.opens;
          agree = agree;
        }
      ]

  open_steps_keep : (n : ℕ) (old new : OpenRun) → OpenKeeps plan old → LeadsByOpenSteps plan n old new → OpenKeeps plan new
  open_steps_keep zero old new keeps same = subst (OpenKeeps plan) same keeps
  open_steps_keep (suc n) old new keeps w = open_steps_keep n w.0 new (open_step_keeps old w.0 keeps w.1) w.2

  pub open_keeps : (n : ℕ) (at : OpenRun) → LeadsByOpenSteps plan n (first_open_run plan) at → OpenKeeps plan at
  open_keeps n at leads = open_steps_keep n (first_open_run plan) at (start_agrees plan is_plan) leads
