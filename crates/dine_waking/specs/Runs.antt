-- A run on threads, as far as letters and bells go: the world of its sites, and what the thread of each site is at. The
-- thread of any site may do the next step. In an open run the sites are on call: each may think on although it has jobs
-- left, and those outside may wake it.
use Rattle.std.specs.Prelude.{◌≡◌, ◌⊎◌, ℕ, zero, suc, ◌<◌, ◌≤◌, ◌==◌, ◌||◌, Bool, true, false, List, [], ◌∷◌, ◌++◌, count_by, replicate, slice_index_or, slice_set, Option, Some, None, if◌then◌else◌}
use Rattle.dine_graph.specs.Plan.{SeenPlan, site_count}
use Rattle.dine_rules.specs.declared.events.EventKind.{EventKind}
use Rattle.dine_rules.specs.declared.events.EventKind.TheVariants as event
use Rattle.dine_rules.specs.declared.letters.LetterKind.{LetterKind}
use Rattle.dine_rules.specs.declared.letters.LetterKind.TheVariants as kind
use Rattle.dine_rules.specs.Local.{edge_at, neighbour_at}
use Rattle.dine_rules.specs.Wants.{SeenWants, is_wanted, still_wanted}
use Rattle.dine_rules.specs.World.{IsComplete, WorldState, place_of, start, state_of, world_after}
use Rattle.dine_site.specs.CoreWants.{can_put_off_by_lists, wants_by_lists}
use Rattle.dine_site.specs.NextEvent.{next_event}
use Rattle.dine_site.specs.Standing.{has_finished}

-- What a thread is at.
-- - GoesOn: it goes on.
-- - HasToRing: its site put a letter of this kind at this place, and it has yet to ring for it.
-- - HasToWake: its ring was noted at the bell of the neighbour at this place, which slept, and it has yet to wake that
--   thread.
-- - HasToTake: it heard a ring for this place, and has yet to take the letter.
-- - Sleeps: it sleeps, and waits for these letters.
-- - IsToBeWoken: it sleeps, and the neighbour at this place has noted a ring and has yet to wake it.
pub data Doing : Type 0 where
  GoesOn : Doing
  HasToRing : ℕ → LetterKind → Doing
  HasToWake : ℕ → Doing
  HasToTake : ℕ → Doing
  Sleeps : SeenWants → Doing
  IsToBeWoken : ℕ → Doing

-- The thread of a site: what it is at, and the rings of its bell for whose letters it has not gone, in order. A ring is
-- the number of the place for which it was rung. A ring whose letter is put off counts among them.
pub record Thread : Type 0 where
  pub doing : Doing
  pub bell : List ℕ

-- a run at one moment: the world, the thread of each site, and whether the run is open
pub record Run : Type 0 where
  pub world : WorldState
  pub threads : List Thread
  pub is_open : Bool

-- a thread before its first step
abbrev pub fresh_thread : Thread
fresh_thread = record { doing = GoesOn; bell = [] }

-- the thread of a site
abbrev pub thread_of : Run → ℕ → Thread
thread_of run s = slice_index_or run.threads s fresh_thread

-- a run at its start, open or not
abbrev pub first_moment : Bool → SeenPlan → Run
first_moment is_open plan = record { world = start plan; threads = replicate (site_count plan) fresh_thread; is_open = is_open }

-- a run at its start that is not open
abbrev pub start_run : SeenPlan → Run
start_run plan = first_moment false plan

-- what a thread is at after an event of its site: it has to ring if the event put a letter
abbrev pub doing_after : EventKind → Doing
doing_after (event.Give i) = HasToRing i kind.Fork
doing_after (event.Ask i) = HasToRing i kind.Request
doing_after (event.Done i) = HasToRing i kind.Done
doing_after (event.Close i) = HasToRing i kind.Close
doing_after kind = GoesOn

-- Whether a ring for a letter of this kind at place i has to wake the thread: if it sleeps and waits for the letter.
-- `anyway` says that it is woken by any letter; a ring that fills a bell does so.
abbrev pub is_woken_by : Bool → ℕ → LetterKind → Doing → Bool
is_woken_by anyway i kind (Sleeps wants) = is_wanted wants i kind || anyway
is_woken_by anyway i kind doing = false

-- what a thread is at after its bell was rung for such a letter
abbrev pub doing_rung : Bool → ℕ → LetterKind → Doing → Doing
doing_rung anyway i kind (Sleeps wants) = if is_wanted wants i kind || anyway then IsToBeWoken i else Sleeps (still_wanted wants kind)
doing_rung anyway i kind doing = doing

-- a thread after its bell was rung for such a letter
abbrev pub thread_after_ring : Bool → ℕ → LetterKind → Thread → Thread
thread_after_ring anyway i kind thread = record { doing = doing_rung anyway i kind thread.doing; bell = thread.bell ++ i ∷ [] }

-- whether a site takes letters, by the event that it would do first without a letter: if there is none, or if it is
-- Begin; a polite site takes letters before a meal, too
abbrev pub takes_letters : Option EventKind → Bool
takes_letters None = true
takes_letters (Some event.Begin) = true
takes_letters (Some kind) = false

-- whether a site may think on, by the same event: if it is to grow hungry, and the run is open
abbrev pub may_think_on : Bool → Option EventKind → Bool
may_think_on is_open (Some event.Hungry) = is_open
may_think_on is_open next = false

-- The site does the event that it would do first without a letter.
pub record Acts (plan : SeenPlan) (s : ℕ) (old new : Run) : Type 0 where
  pub goes_on : (thread_of old s).doing ≡ GoesOn
  pub kind : EventKind
  pub next : next_event plan s (state_of old.world s) ≡ Some kind
  pub world : world_after plan old.world (record { site = s; kind = kind }) ≡ Some new.world
  pub as_open : new.is_open ≡ old.is_open
  pub threads : new.threads ≡ slice_set old.threads s (record { doing = doing_after kind; bell = (thread_of old s).bell })

-- the number of the site at the bell of its neighbour at place i: the place there of the same edge
abbrev pub number_there : SeenPlan → ℕ → ℕ → ℕ
number_there plan s i = place_of plan (neighbour_at plan s i) (edge_at plan s i)

-- what a thread is at after it rang for a letter at place i: it has to wake the neighbour there, or it goes on
abbrev pub after_ringing : Bool → ℕ → Doing
after_ringing wakes i = if wakes then HasToWake i else GoesOn

-- The site rings the bell of its neighbour, with the number of the place there, for the letter that it put at place i.
pub record RingsBell (plan : SeenPlan) (s : ℕ) (old new : Run) : Type 0 where
  pub i : ℕ
  pub kind : LetterKind
  pub anyway : Bool
  pub rings : (thread_of old s).doing ≡ HasToRing i kind
  pub world : new.world ≡ old.world
  pub as_open : new.is_open ≡ old.is_open
  pub threads : new.threads ≡ slice_set
      (slice_set old.threads s (record {
        doing = after_ringing (is_woken_by anyway (number_there plan s i) kind (thread_of old (neighbour_at plan s i)).doing) i;
        bell = (thread_of old s).bell;
      }))
      (neighbour_at plan s i) (thread_after_ring anyway (number_there plan s i) kind (thread_of old (neighbour_at plan s i)))

-- The site wakes the thread of its neighbour at place i, which sleeps.
pub record WakesThread (plan : SeenPlan) (s : ℕ) (old new : Run) : Type 0 where
  pub i : ℕ
  pub wakes : (thread_of old s).doing ≡ HasToWake i
  pub woken : (thread_of old (neighbour_at plan s i)).doing ≡ IsToBeWoken (number_there plan s i)
  pub world : new.world ≡ old.world
  pub as_open : new.is_open ≡ old.is_open
  pub threads : new.threads ≡ slice_set (slice_set old.threads s (record { doing = GoesOn; bell = (thread_of old s).bell }))
      (neighbour_at plan s i) (record { doing = GoesOn; bell = (thread_of old (neighbour_at plan s i)).bell })

-- how many of these rings are for place i
abbrev pub rings_for : ℕ → List ℕ → ℕ
rings_for i = count_by (λ k. k == i)

-- The site hears a ring of its bell: any one that is the first for its place.
pub record HearsRing (plan : SeenPlan) (s : ℕ) (old new : Run) : Type 0 where
  pub goes_on : (thread_of old s).doing ≡ GoesOn
  pub turn : (takes_letters (next_event plan s (state_of old.world s)) || may_think_on old.is_open (next_event plan s (state_of old.world s))) ≡ true
  pub i : ℕ
  pub front : List ℕ
  pub rest : List ℕ
  pub bell : (thread_of old s).bell ≡ front ++ i ∷ rest
  pub first : rings_for i front ≡ 0
  pub world : new.world ≡ old.world
  pub as_open : new.is_open ≡ old.is_open
  pub threads : new.threads ≡ slice_set old.threads s (record { doing = HasToTake i; bell = front ++ rest })

-- The site takes the next letter at the place for which it heard a ring.
pub record TakesLetter (plan : SeenPlan) (s : ℕ) (old new : Run) : Type 0 where
  pub i : ℕ
  pub takes : (thread_of old s).doing ≡ HasToTake i
  pub world : world_after plan old.world (record { site = s; kind = event.Take i }) ≡ Some new.world
  pub as_open : new.is_open ≡ old.is_open
  pub threads : new.threads ≡ slice_set old.threads s (record { doing = GoesOn; bell = (thread_of old s).bell })

-- the site may sleep, by the event that it would do first without a letter: if there is none, or if it is to grow
-- hungry, and the run is open
abbrev pub MaySleepBefore : Bool → Option EventKind → Type 0
MaySleepBefore is_open next = (next ≡ None) ⊎ ((is_open ≡ true) × (next ≡ Some event.Hungry))

-- The site falls asleep: it can do nothing without a letter, or thinks on, and it has not finished. Each ring that is
-- left is the only one for its place, and the letter there can be put off until the next meal.
pub record FallsAsleep (plan : SeenPlan) (s : ℕ) (old new : Run) : Type 0 where
  pub goes_on : (thread_of old s).doing ≡ GoesOn
  pub idle : MaySleepBefore old.is_open (next_event plan s (state_of old.world s))
  pub unfinished : has_finished plan s (state_of old.world s) ≡ false
  pub put_off : (i : ℕ) → 0 < rings_for i (thread_of old s).bell → can_put_off_by_lists plan s (state_of old.world s) i ≡ true
  pub once : (i : ℕ) → rings_for i (thread_of old s).bell ≤ 1
  pub world : new.world ≡ old.world
  pub as_open : new.is_open ≡ old.is_open
  pub threads : new.threads ≡ slice_set old.threads s (record { doing = Sleeps (wants_by_lists plan s (state_of old.world s)); bell = (thread_of old s).bell })

-- Somebody outside rings the doorbell of the site, which sleeps. This is in open runs alone.
pub record IsCalled (plan : SeenPlan) (s : ℕ) (old new : Run) : Type 0 where
  pub is_open : old.is_open ≡ true
  pub wants : SeenWants
  pub sleeps : (thread_of old s).doing ≡ Sleeps wants
  pub world : new.world ≡ old.world
  pub as_open : new.is_open ≡ old.is_open
  pub threads : new.threads ≡ slice_set old.threads s (record { doing = GoesOn; bell = (thread_of old s).bell })

-- one step of the thread of a site, or at its doorbell
pub data ThreadStep (plan : SeenPlan) (s : ℕ) (old new : Run) : Type 0 where
  ByActing : Acts plan s old new → ThreadStep plan s old new
  ByRinging : RingsBell plan s old new → ThreadStep plan s old new
  ByWaking : WakesThread plan s old new → ThreadStep plan s old new
  ByHearing : HearsRing plan s old new → ThreadStep plan s old new
  ByTaking : TakesLetter plan s old new → ThreadStep plan s old new
  BySleeping : FallsAsleep plan s old new → ThreadStep plan s old new
  ByDoorbell : IsCalled plan s old new → ThreadStep plan s old new

-- one step of a run: some site does it
pub record RunStep (plan : SeenPlan) (old new : Run) : Type 0 where
  pub site : ℕ
  pub is_site : site < site_count plan
  pub step : ThreadStep plan site old new

-- n steps lead from one moment of a run to the other
abbrev pub LeadsBySteps : SeenPlan → ℕ → Run → Run → Type 0
LeadsBySteps plan zero old new = old ≡ new
LeadsBySteps plan (suc n) old new = (next : Run) × RunStep plan old next × LeadsBySteps plan n next new

-- no site can do a step
abbrev pub IsStuck : SeenPlan → Run → Type 0
IsStuck plan run = (new : Run) → RunStep plan run new → ⊥

-- the place for which a thread has heard a ring and not taken the letter, if there is one
abbrev pub places_heard : Doing → List ℕ
places_heard (HasToTake i) = i ∷ []
places_heard doing = []

-- the rings of a thread for which it has not taken the letter, in order: the one that it heard, and those of its bell
abbrev pub rings_left : Thread → List ℕ
rings_left thread = places_heard thread.doing ++ thread.bell

-- 1 if a thread has yet to ring for a letter at this place, and else 0
abbrev pub has_yet_to_ring : Doing → ℕ → ℕ
has_yet_to_ring (HasToRing j kind) i = if j == i then 1 else 0
has_yet_to_ring doing i = 0

-- The run has ended: its world is complete, each site has finished, no thread sleeps, and no thread has a ring left.
pub record RunHasEnded (plan : SeenPlan) (run : Run) : Type 0 where
  pub complete : IsComplete plan run.world
  pub finished : (s : ℕ) → s < site_count plan → has_finished plan s (state_of run.world s) ≡ true
  pub awake : (s : ℕ) → s < site_count plan → thread_of run s ≡ fresh_thread

-- The moments of a run that goes on: from the start on some site does a step in each turn, unless no site can do one.
pub record GoesOnForever (plan : SeenPlan) (moments : ℕ → Run) : Type 0 where
  pub starts : moments 0 ≡ start_run plan
  pub turns : (turn : ℕ) → RunStep plan (moments turn) (moments (suc turn)) ⊎ IsStuck plan (moments turn)
