-- A site with its plan, its meal and the forks that it keeps, as contracts see it; and what its calls do.
use Rattle.std.specs.Prelude.{◌≡◌, ◌≢◌, ◌⊎◌, ℕ, ℤ, ◌<◌, ◌≤◌, Bool, false, true, List, Option, Some, None, length, map, nat_le, nat_lt, pos, slice_set, if◌then◌else◌}
use Rattle.dine_token.specs.Fork.{SeenFork}
use Rattle.dine_token.specs.Log.{is_dirty}
use Rattle.dine_token.specs.Meal.{SeenMeal}
use Rattle.dine_graph.specs.Plan.{SeenPlan, edges_of, site_count}
use Rattle.dine_rules.specs.declared.events.EventKind.{EventKind}
use Rattle.dine_rules.specs.declared.events.EventKind.TheVariants as kind
use Rattle.dine_rules.specs.declared.letters.Letter.{Letter}
use Rattle.dine_rules.specs.declared.letters.Letter.TheVariants as letter
use Rattle.dine_rules.specs.declared.breach.Breach.{Breach}
use Rattle.dine_rules.specs.Breach.{first_breach}
use Rattle.dine_rules.specs.Holdings.{EatsWithAll}
use Rattle.dine_rules.specs.Local.{LocalState, edge_at, is_eating, traffic_at}
use Rattle.dine_rules.specs.declared.events.Shape.{Shape}
use Rattle.dine_rules.specs.declared.events.Shape.TheVariants.{Puts, Alone}
use Rattle.dine_rules.specs.Steps as step
use Rattle.dine_rules.specs.Steps.{Step, after, may}
use Rattle.dine_rules.specs.Streams.{KeepsStreams}
use Rattle.dine_site.specs.Core.{SeenCore, Refines, forks_in_hand}
use Rattle.dine_site.specs.NextEvent.{next_of}
use Rattle.dine_site.specs.Places.{IsMealOf, has_all_said}
use Rattle.dine_site.specs.declared.site.places.ForkSlot.{ForkSlot}
use Rattle.dine_site.specs.declared.site.places.ForkSlot.TheVariants as slot
use Rattle.dine_site.specs.Standing.{CorePuts, CoreStep, CoreSteps, ForEachState, IsFreshFor, all_places}
use Rattle.dine_world.specs.WorldSites.{meal_of}
use Rattle.dine_wire.specs.Carried.{ArrivesWith, GoesOn, fork_for_next}
use Rattle.dine_wire.specs.Notes.{IsInBytes, fork_note}
use Rattle.dine_wire.specs.Runs.{IsNoLetter, bytes_in_run, is_of_run}
use Rattle.dine_wire.specs.declared.note.ForkNote.{ForkNote}
use Rattle.dine_wire.specs.declared.note.Note.{Note}
use Rattle.dine_wire.specs.declared.note.Report.{Report}
use Rattle.dine_wire.specs.declared.note.Report.TheVariants as report
use Rattle.dine_wire.specs.declared.wire_fault.WireFault.{WireFault}
use Rattle.dine_wire.specs.declared.wire_fault.WireFault.TheVariants as fault
use Rattle.dine_ffi.specs.Answers.{IsDoneOr, IsOkOr, IsRefused, breach_status, eating, finished, memory, no_such, not_now, other_edge, small, waits, wire_status}
use Rattle.dine_ffi.specs.Events.{kind_numbered, seen_event}
use Rattle.dine_ffi.specs.declared.event.DineEvent.{DineEvent}
use Rattle.dine_ffi.specs.Shelves.{IsForkBreach, first_kept, kept_at, put_away, taken_off}
use Rattle.dine_ffi.specs.Written.{AreWritten}

-- the plan; the number of the run; the core of the site; its meal, if it eats; and for each place the fork that it
-- keeps for the next Fork there, if the fork is not here
pub record SeenOwnSite : Type 0 where
  pub plan : SeenPlan
  pub run : ℕ
  pub core : SeenCore
  pub meal : Option SeenMeal
  pub shelf : List (Option SeenFork)

-- Each place keeps the fork from which the next Fork there goes on, by what the site put and took: the last Fork that
-- it put, or the fork of the start. If the fork is here, none is kept.
pub record IsShelfOf (plan : SeenPlan) (s : ℕ) (state : LocalState) (shelf : List (Option SeenFork)) : Type 0 where
  pub count : length shelf ≡ length state.traffic
  pub each : (i : ℕ) → i < length state.traffic → kept_at i shelf ≡ fork_for_next plan s (edge_at plan s i) (traffic_at state i)

-- The site represents the state, with all letters that it put and took. The state is one to which the rules lead. The
-- core represents it, the meal is that of the state, and the forks that are kept are those of the state.
pub record StandsFor (state : LocalState) (own : SeenOwnSite) : Type 0 where
  pub core : Refines own.plan state own.core
  pub keeps : KeepsStreams own.plan own.core.site state
  pub eats_with_all : EatsWithAll own.plan own.core.site state
  pub meal : own.meal ≡ meal_of own.plan own.core.site state
  pub shelf : IsShelfOf own.plan own.core.site state own.shelf

-- The site did the step. The state allowed it, and the site represents the state after it. It is the same site of the
-- same plan and run.
pub record OwnStep (state : LocalState) (step : Step) (old new : SeenOwnSite) : Type 0 where
  pub allowed : may old.plan old.core.site state step ≡ true
  pub stands : StandsFor (after old.plan old.core.site state step) new
  pub plan : new.plan ≡ old.plan
  pub run : new.run ≡ old.run
  pub site : new.core.site ≡ old.core.site

-- the same for each state that the site represented
abbrev pub OwnSteps : Step → SeenOwnSite → SeenOwnSite → Type 0
OwnSteps step old new = (state : LocalState) → StandsFor state old → OwnStep state step old new

-- ---- what calls do with what is kept

-- It is the site of the plan with this number, in this run, before its first event. It has no meal, and keeps of each
-- edge whose higher end it is the fork of the start.
pub record IsOpened (plan : SeenPlan) (run number : ℕ) (own : SeenOwnSite) : Type 0 where
  pub site : own.core.site ≡ number
  pub plan_is : own.plan ≡ plan
  pub run_is : own.run ≡ run
  pub fresh : IsFreshFor plan own.core
  pub meal : own.meal ≡ None
  pub shelf : own.shelf ≡ map (first_kept plan number) (edges_of plan number)

-- The site did the step, which puts no letter and takes no Fork. Plan, run, meal and the forks that it keeps stay.
pub record SiteSteps (step : Step) (old new : SeenOwnSite) : Type 0 where
  pub core : CoreSteps step old.core new.core
  pub shelf : new.shelf ≡ old.shelf
  pub plan : new.plan ≡ old.plan
  pub run : new.run ≡ old.run
  pub meal : new.meal ≡ old.meal

-- The site, which does not eat, did the step, which puts the letter at place i. If the letter is the fork, it is kept
-- as it was. Plan, run and meal stay.
pub record SitePuts (i : ℕ) (step : Step) (old new : SeenOwnSite) (letter : Letter) : Type 0 where
  pub awake : is_eating old.core.phase ≡ false
  pub core : CorePuts i step old.core new.core letter
  pub shelf : new.shelf ≡ put_away i letter old.shelf
  pub plan : new.plan ≡ old.plan
  pub run : new.run ≡ old.run
  pub meal : new.meal ≡ old.meal

-- The site took the letter of its run at place i, which arrived with these bytes. If it is the fork, it goes on from
-- the fork that was kept there, which is kept no more. Plan, run and meal stay: a letter may be taken during a meal.
pub record SiteTakes (bytes : List ℕ) (i : ℕ) (letter : Letter) (old new : SeenOwnSite) : Type 0 where
  pub arrives : ArrivesWith old.plan old.run (kept_at i old.shelf) (edge_at old.plan old.core.site i) bytes letter
  pub core : CoreSteps (step.Take i letter) old.core new.core
  pub shelf : new.shelf ≡ taken_off i letter old.shelf
  pub plan : new.plan ≡ old.plan
  pub run : new.run ≡ old.run
  pub meal : new.meal ≡ old.meal

-- The site took this fork at place i, which arrived with the note and goes on from the fork that was kept there. That
-- one is kept no more. Plan, run and meal stay.
pub record SiteTakesFork (i : ℕ) (note : ForkNote) (fork : SeenFork) (old new : SeenOwnSite) : Type 0 where
  pub note_is : note ≡ fork_note fork
  pub goes_on : GoesOn old.plan (kept_at i old.shelf) fork
  pub core : CoreSteps (step.Take i (letter.Fork fork)) old.core new.core
  pub shelf : new.shelf ≡ slice_set old.shelf i None
  pub plan : new.plan ≡ old.plan
  pub run : new.run ≡ old.run
  pub meal : new.meal ≡ old.meal

-- The site began a meal, which it has now, with the forks that the rules say. Plan, run and the forks that
-- it keeps stay.
pub record SiteBegins (old new : SeenOwnSite) : Type 0 where
  pub core : CoreSteps step.Begin old.core new.core
  pub begun : SeenMeal
  pub meal : new.meal ≡ Some begun
  pub fits : IsMealOf new.core begun
  pub forks : ForEachState old.core (λ plan state. begun.forks ≡ forks_in_hand plan old.core.site (after plan old.core.site state step.Begin) (all_places state))
  pub shelf : new.shelf ≡ old.shelf
  pub plan : new.plan ≡ old.plan
  pub run : new.run ≡ old.run

-- The site ended its meal, whose job failed or did not. If the forks of the meal were those of a state, this is the
-- step End. Plan, run and the forks that it keeps stay.
pub record SiteEnds (failed : Bool) (old new : SeenOwnSite) : Type 0 where
  pub ended : SeenMeal
  pub was : old.meal ≡ Some ended
  pub core : ForEachState old.core (λ plan state. ended.forks ≡ forks_in_hand plan old.core.site state (all_places state) → CoreStep plan state (step.End failed) old.core new.core)
  pub meal : new.meal ≡ None
  pub shelf : new.shelf ≡ old.shelf
  pub plan : new.plan ≡ old.plan
  pub run : new.run ≡ old.run

-- the fork is here and dirty: it is in the meal, or was eaten with since it came [paper: clean and dirty]
abbrev pub is_used : ForkSlot → Bool
is_used slot.Away = false
is_used (slot.Here fork) = is_dirty fork.log
is_used (slot.InMeal meals) = true

-- ---- what calls return

-- the rules do not allow the step, in any state that the site represents
abbrev pub MayNot : Step → SeenOwnSite → Type 0
MayNot step own = (state : LocalState) → StandsFor state own → may own.plan own.core.site state step ≡ false

-- the site has no such place
abbrev pub IsNoPlace : ℕ → SeenOwnSite → Type 0
IsNoPlace i own = (state : LocalState) → StandsFor state own → length own.core.places ≤ i

-- what a call for a step returns if it refuses: that the site eats; else that the rules do not allow the step now
abbrev pub step_refusal : SeenOwnSite → ℤ
step_refusal own = if is_eating own.core.phase then eating else not_now

-- A call for a step does the step, and returns 0. Or it refuses and nothing changes; then the rules do not allow the
-- step.
abbrev pub StepsOrRefuses : Step → ℤ → SeenOwnSite → SeenOwnSite → Type 0
StepsOrRefuses step result old new = IsOkOr result (SiteSteps step old new) ((new ≡ old) × MayNot step old × (result ≡ step_refusal old))

-- What a call returns that refuses to put a letter at place i: that the site eats; else that `out` has fewer than 29
-- bytes; else that there is no such place; else that the rules do not allow the step now.
abbrev pub put_refusal : ℕ → List ℕ → SeenOwnSite → ℤ
put_refusal i out own = if is_eating own.core.phase then eating
    else (if nat_lt (length out) 29 then small
    else (if nat_le (length own.core.places) i then no_such
    else not_now))

-- Why a call refuses to put the letter of the step at place i. If `out` is not too small, the rules do not allow the
-- step.
pub record PutRefuses (i : ℕ) (step : Step) (out : List ℕ) (result : ℤ) (own : SeenOwnSite) : Type 0 where
  pub status : (state : LocalState) → StandsFor state own → result ≡ put_refusal i out own
  pub may_not : result ≢ small → MayNot step own

-- A call that puts a letter at place i does the step, writes the bytes of its letter to the front of `out`, and returns
-- their number; or it refuses, and neither the site nor `out` changes.
abbrev pub PutsOrRefuses : ℕ → Step → List ℕ → List ℕ → ℤ → SeenOwnSite → SeenOwnSite → Type 0
PutsOrRefuses i step out out_new result old new =
    IsDoneOr result ((letter : Letter) × SitePuts i step old new letter × AreWritten old.run letter (edge_at old.plan old.core.site i) out out_new result)
    ((new ≡ old) × (out_new ≡ out) × PutRefuses i step out result old)

-- a call to begin a meal begins one, and returns 0; or it refuses and nothing changes, and then the rules allow no meal
abbrev pub BeginsOrRefuses : ℤ → SeenOwnSite → SeenOwnSite → Type 0
BeginsOrRefuses result old new = IsOkOr result (SiteBegins old new) ((new ≡ old) × MayNot step.Begin old × (result ≡ step_refusal old))

-- a call to end a meal ends it, and returns 0; or there is none and nothing changes
abbrev pub EndsOrRefuses : Bool → ℤ → SeenOwnSite → SeenOwnSite → Type 0
EndsOrRefuses failed result old new = IsOkOr result (SiteEnds failed old new) ((new ≡ old) × MayNot (step.End failed) old × (result ≡ not_now))

-- a call for an event with this shape and this step: a letter that the event puts is written to the front of `out`
abbrev pub ActsBy : Shape → Option Step → List ℕ → List ℕ → ℤ → SeenOwnSite → SeenOwnSite → Type 0
ActsBy (Puts i) (Some step) out out_new result old new = PutsOrRefuses i step out out_new result old new
ActsBy Alone (Some step) out out_new result old new = StepsOrRefuses step result old new × (out_new ≡ out)
ActsBy _ _ out out_new result old new = (result ≡ no_such) × (new ≡ old) × (out_new ≡ out)

-- A call for an event of this kind is as the call for the kind. To take a letter is the part of another call, so a Take
-- is refused, as a number that is no kind; then nothing changes.
abbrev pub ActsAs : Option EventKind → List ℕ → List ℕ → ℤ → SeenOwnSite → SeenOwnSite → Type 0
ActsAs None out out_new result old new = (result ≡ no_such) × (new ≡ old) × (out_new ≡ out)
ActsAs (Some kind.Begin) out out_new result old new = BeginsOrRefuses result old new × (out_new ≡ out)
ActsAs (Some kind.End) out out_new result old new = EndsOrRefuses false result old new × (out_new ≡ out)
ActsAs (Some kind) out out_new result old new = ActsBy (step.shape_of kind) (step.step_by false (λ i. None) kind) out out_new result old new

-- A call for an event of the site does it, or refuses. An event of another site is refused, and nothing changes.
abbrev pub ActsOrRefuses : DineEvent → List ℕ → List ℕ → ℤ → SeenOwnSite → SeenOwnSite → Type 0
ActsOrRefuses event out out_new result old new =
    (event.site ≡ old.core.site → ActsAs (kind_numbered event.kind event.place) out out_new result old new)
    × (event.site ≢ old.core.site → ActsAs None out out_new result old new)

-- what a turn returns if there is no event: that the site has finished, or that it waits for a letter
abbrev pub idle_status : SeenCore → ℤ
idle_status core = if has_all_said core then finished else waits

-- The site, the event and the bytes are as before.
pub record TurnChangesNothing (event event_new : DineEvent) (out out_new : List ℕ) (old new : SeenOwnSite) : Type 0 where
  pub site_stays : new ≡ old
  pub event_stays : event_new ≡ event
  pub bytes_stay : out_new ≡ out

-- A turn in a meal refuses, since the caller has to end it. Else it does the first event that the site may do by
-- itself, as the call for this event does, and writes the event; or there is none, and the turn returns why. A turn
-- that finds an event refuses only if this puts a letter and `out` has fewer than 29 bytes.
pub record TurnsOrRefuses (event event_new : DineEvent) (out out_new : List ℕ) (result : ℤ) (old new : SeenOwnSite) : Type 0 where
  pub eats : is_eating old.core.phase ≡ true → (result ≡ eating) × TurnChangesNothing event event_new out out_new old new
  pub idle : is_eating old.core.phase ≡ false → next_of old.core ≡ None → (result ≡ idle_status old.core) × TurnChangesNothing event event_new out out_new old new
  pub acts : is_eating old.core.phase ≡ false → (next : EventKind) → next_of old.core ≡ Some next → ActsAs (Some next) out out_new result old new
      × IsDoneOr result (event_new ≡ seen_event old.core.site next) (event_new ≡ event)
  pub few_bytes : is_eating old.core.phase ≡ false → (next : EventKind) → next_of old.core ≡ Some next → IsRefused result
      → (state : LocalState) → StandsFor state old → (result ≡ small) × (length out < 29)

-- P holds of each fork that may arrive with this note at place i
abbrev pub ForEachFork : ℕ → ForkNote → SeenOwnSite → (SeenFork → Type 0) → Type 0
ForEachFork i note own P = (fork : SeenFork) → note ≡ fork_note fork → GoesOn own.plan (kept_at i own.shelf) fork → P fork

-- A fork arrives at place i with this note, and the rules allow it.
pub record IsForkToTake (i : ℕ) (note : ForkNote) (state : LocalState) (own : SeenOwnSite) (fork : SeenFork) : Type 0 where
  pub note_is : note ≡ fork_note fork
  pub goes_on : GoesOn own.plan (kept_at i own.shelf) fork
  pub allowed : first_breach own.plan own.core.site state i (letter.Fork fork) ≡ None

-- Why a fork with this note is refused at place i, and what is returned. An allocation failed, of a fork that arrives
-- and that the rules allow. Or no fork arrives with the note. Or the rules do not allow it, as far as the site knows
-- without the fork; that is then the first breach of each fork that arrives with the note.
abbrev pub ForkRefuses : ℕ → ForkNote → ℤ → LocalState → SeenOwnSite → Type 0
ForkRefuses i note result state own =
    ((result ≡ memory) × ((fork : SeenFork) × IsForkToTake i note state own fork))
    ⊎ ((result ≡ wire_status fault.Unlawful) × ForEachFork i note own (λ fork. ⊥))
    ⊎ ((breach : Breach) × (result ≡ breach_status breach) × IsForkBreach own.plan own.core i note breach
    × ForEachFork i note own (λ fork. first_breach own.plan own.core.site state i (letter.Fork fork) ≡ Some breach))

-- why a letter other than a Fork is refused at place i, and what is returned: the rules do not allow it
abbrev pub WordRefuses : ℕ → Letter → ℤ → LocalState → SeenOwnSite → Type 0
WordRefuses i letter result state own = (breach : Breach) × (result ≡ breach_status breach) × (first_breach own.plan own.core.site state i letter ≡ Some breach)

-- why what a letter of this edge reports is refused at place i, and what is returned
abbrev pub ReportRefuses : ℕ → ℕ → Report → ℤ → LocalState → SeenOwnSite → Type 0
ReportRefuses i edge (report.Fork fork) result state own = ForkRefuses i fork result state own
ReportRefuses i edge report.Request result state own = WordRefuses i (letter.Request edge) result state own
ReportRefuses i edge report.Done result state own = WordRefuses i letter.Done result state own
ReportRefuses i edge report.Close result state own = WordRefuses i letter.Close result state own

-- no place of the site is of this edge
abbrev pub IsEdgeOfNone : ℕ → SeenOwnSite → Type 0
IsEdgeOfNone edge own = own.core.site < site_count own.plan → (i : ℕ) → i < length (edges_of own.plan own.core.site) → edge_at own.plan own.core.site i ≢ edge

-- The place is the one of the edge that the note names.
pub record IsPlaceOf (i : ℕ) (note : Note) (own : SeenOwnSite) : Type 0 where
  pub within : i < length own.core.places
  pub edge : edge_at own.plan own.core.site i ≡ note.edge

-- Why a call with these bytes refuses, and what is returned. The bytes are those of no letter of the run, and the fault
-- is theirs. Or they are those of one, with this note: then no place of the site is of its edge, or what it reports is
-- refused at the place that is.
abbrev pub TakeRefuses : List ℕ → ℤ → LocalState → SeenOwnSite → Type 0
TakeRefuses bytes result state own =
    ((f : WireFault) × (result ≡ wire_status f) × IsNoLetter own.run bytes f)
    ⊎ ((note : Note) × IsInBytes note × (bytes ≡ bytes_in_run own.run note)
    × (((result ≡ other_edge) × IsEdgeOfNone note.edge own) ⊎ ((i : ℕ) × IsPlaceOf i note own × ReportRefuses i note.edge note.report result state own)))

-- A call with the bytes of a letter takes the letter that arrives with them at one of the places, and returns this
-- place. Or it refuses, and a site that represents a state is as it was. If the bytes begin with the number of another
-- run, it refuses for that before anything else, and nothing changes.
pub record TakesOrRefuses (bytes : List ℕ) (result : ℤ) (old new : SeenOwnSite) : Type 0 where
  pub outcome : IsDoneOr result ((i : ℕ) × (letter : Letter) × (result ≡ pos i) × SiteTakes bytes i letter old new)
      ((state : LocalState) → StandsFor state old → (new ≡ old) × TakeRefuses bytes result state old)
  pub other_run : 8 ≤ length bytes → is_of_run old.run bytes ≡ false → (result ≡ wire_status fault.OtherRun) × (new ≡ old)
