-- Runs in which each site takes letters in its manner. It is polite or eager.
use Rattle.std.specs.Prelude.{◌≡◌, ℕ, zero, suc, ◌<◌, ◌==◌, ◌&&◌, ◌||◌, Bool, true, false, List, [], ◌∷◌, length, None, if◌then◌else◌}
use Rattle.dine_token.specs.Log.{is_dirty}
use Rattle.dine_graph.specs.Plan.{IsPlan, SeenPlan, edges_of, site_count}
use Rattle.dine_rules.specs.declared.events.EventKind.TheVariants as event
use Rattle.dine_rules.specs.Holdings.{fork_at, hand_at, token_at}
use Rattle.dine_rules.specs.Letters.{forks_in, requests_in}
use Rattle.dine_rules.specs.Links.{queue_to}
use Rattle.dine_rules.specs.Local.{LocalState, neighbour_at, traffic_at}
use Rattle.dine_rules.specs.World.{state_of}
use Rattle.dine_site.specs.CoreWants.{can_put_off_by_lists}
use Rattle.dine_site.specs.NextEvent.{next_event}
use Rattle.dine_waking.specs.Runs.{ByActing, ByHearing, Doing, GoesOn, LeadsBySteps, Run, RunStep, ThreadStep, first_moment, has_yet_to_ring, number_there, thread_of}

-- the letters of these rings can be put off until the next meal of the site, in this state
abbrev pub can_all_be_put_off : SeenPlan → ℕ → LocalState → List ℕ → Bool
can_all_be_put_off plan s state [] = true
can_all_be_put_off plan s state (i ∷ rings) = can_put_off_by_lists plan s state i && can_all_be_put_off plan s state rings

-- a thread that is at this finds no ring if it checks this bell now: it goes on, and the bell has none but those whose
-- letters can be put off
abbrev pub finds_no_ring : SeenPlan → ℕ → LocalState → Doing → List ℕ → Bool
finds_no_ring plan s state GoesOn bell = can_all_be_put_off plan s state bell
finds_no_ring plan s state doing bell = false

-- The site has checked its bell: at some moment since its own last step it found no ring but those whose letters
-- can be put off, or it finds none now.
-- `checked` says of each site whether it had before. Rings may have come since.
abbrev pub has_checked : SeenPlan → Run → (ℕ → Bool) → ℕ → Bool
has_checked plan run checked s = checked s || finds_no_ring plan s (state_of run.world s) (thread_of run s).doing (thread_of run s).bell

-- which sites have checked when site s has done a step: s has yet to check again, and any other site has if it had
abbrev pub checked_after : SeenPlan → Run → ℕ → (ℕ → Bool) → ℕ → Bool
checked_after plan run s checked t = if t == s then false else has_checked plan run checked t

-- The step is in the manner of its site. A polite site begins a meal only if it has checked its bell. Between the check
-- and the meal it does no step, but rings may come. An eager site hears a ring only if it can do nothing without a
-- letter. Both do their other steps as any site does.
abbrev pub IsInManner : (plan : SeenPlan) (s : ℕ) (checked : ℕ → Bool) (old new : Run) → ThreadStep plan s old new → Bool → Type 0
IsInManner plan s checked old new (ByActing a) true = a.kind ≡ event.Begin → has_checked plan old checked s ≡ true
IsInManner plan s checked old new (ByHearing h) false = next_event plan s (state_of old.world s) ≡ None
IsInManner plan s checked old new step polite = Unit {0}

-- One step of a run, in the manner of the site that does it. `is_polite` says which sites are polite. The others are
-- eager. `checked` says which sites had checked their bells before.
pub record MannerStep (plan : SeenPlan) (is_polite checked : ℕ → Bool) (old new : Run) : Type 0 where
  pub step : RunStep plan old new
  pub in_manner : IsInManner plan step.site checked old new step.step (is_polite step.site)

-- n such steps lead from one moment of a run to the other, and from the sites that had checked by the one to those that
-- had by the other
abbrev pub LeadsInManner : SeenPlan → (ℕ → Bool) → ℕ → (ℕ → Bool) → Run → (ℕ → Bool) → Run → Type 0
LeadsInManner plan is_polite zero checked old checked_then new = (checked ≡ checked_then) × (old ≡ new)
LeadsInManner plan is_polite (suc n) checked old checked_then new = (next : Run) × (one : MannerStep plan is_polite checked old next)
    × LeadsInManner plan is_polite n (checked_after plan old one.step.site checked) next checked_then new

-- the neighbour at place i asks the site for the fork: its Request is in the link
abbrev pub IsAsked : SeenPlan → Run → ℕ → ℕ → Type 0
IsAsked plan run s i = requests_in (queue_to plan run.world s i) ≡ 1

-- the neighbour at place i has rung for each letter that it put there
abbrev pub HasRungForAll : SeenPlan → Run → ℕ → ℕ → Type 0
HasRungForAll plan run s i = has_yet_to_ring (thread_of run (neighbour_at plan s i)).doing (number_there plan s i) ≡ 0

-- A moment of a run, open or not, and a place of a site.
pub record IsPlaceIn (plan : SeenPlan) (run : Run) (s i : ℕ) : Type 0 where
  pub is_plan : IsPlan plan
  pub is_open : Bool
  pub steps : ℕ
  pub reached : LeadsBySteps plan steps (first_moment is_open plan) run
  pub is_site : s < site_count plan
  pub is_place : i < length (edges_of plan s)

-- Such a moment at which the neighbour there has asked the site for the fork, and has rung.
pub record HasAsked (plan : SeenPlan) (run : Run) (s i : ℕ) : Type 0 where
  pub place : IsPlaceIn plan run s i
  pub asks : IsAsked plan run s i
  pub rang : HasRungForAll plan run s i

-- the site holds the fork of place i, and the fork is dirty
abbrev pub HoldsDirtyFork : SeenPlan → Run → ℕ → ℕ → Type 0
HoldsDirtyFork plan run s i = (fork_at plan s (state_of run.world s) i ≡ 1) × (is_dirty (hand_at s (state_of run.world s) i) ≡ true)

-- the site holds the fork of place i, and the fork is clean
abbrev pub HoldsCleanFork : SeenPlan → Run → ℕ → ℕ → Type 0
HoldsCleanFork plan run s i = (fork_at plan s (state_of run.world s) i ≡ 1) × (is_dirty (hand_at s (state_of run.world s) i) ≡ false)

-- The site waits for the fork of place i: it has neither the fork nor the token, and it has rung for each letter that
-- it put there. So it has asked for the fork. Its Request may have been taken, and the fork may be on its way to it.
abbrev pub WaitsForFork : SeenPlan → Run → ℕ → ℕ → Type 0
WaitsForFork plan run s i = (fork_at plan s (state_of run.world s) i ≡ 0) × (token_at plan s (state_of run.world s) i ≡ 0) × (has_yet_to_ring (thread_of run s).doing i ≡ 0)

-- how many times the site has given the fork of place i
abbrev pub forks_given : Run → ℕ → ℕ → ℕ
forks_given run s i = forks_in (traffic_at (state_of run.world s) i).put

-- how many meals the site has begun
abbrev pub meals_so_far : Run → ℕ → ℕ
meals_so_far run s = (state_of run.world s).ate
