-- Steps of two workers: the higher one asks for the fork, and the lower one gives it and asks for it again.
use Rattle.std.proofs.Common.{◌≡◌, ◌<◌, ℕ, zero, suc, List, [], ◌∷◌, ◌++◌, false, true, refl, sym, ◌∙◌, inl, arith}
use Rattle.dine_rules.specs.declared.events.EventKind.TheVariants as event
use Rattle.dine_rules.specs.declared.letters.LetterKind.TheVariants as kind
use Rattle.dine_rules.specs.declared.phase.Phase.TheVariants.{Hungry, Thinking}
use Rattle.dine_rules.specs.Local.{LocalState}
use Rattle.dine_rules.specs.World.{state_of}
use Rattle.dine_graph.specs.Plan.{SeenPlan}
use Rattle.dine_rules.specs.Wants.{SeenWants}
use Rattle.dine_set.specs.Marks.{marks_of}
use Rattle.dine_site.specs.CoreWants.{wants_by_lists}
use Rattle.dine_waking.specs.Examples.{asked_world, asleep_run, at_work, fork_given_first, request, state_in, two_workers}
use Rattle.dine_waking.specs.Mistakes.{hung_run}
use Rattle.dine_waking.specs.Runs.{ByActing, ByDoorbell, ByHearing, ByRinging, BySleeping, ByTaking, ByWaking, GoesOn, HasToRing, HasToTake, HasToWake, IsStuck, Run, RunStep, Sleeps, Thread, ThreadStep, start_run, thread_of}

-- these two sites, with these threads
abbrev pub moment : LocalState → LocalState → Thread → Thread → Run
moment low high lower higher = record { world = low ∷ high ∷ []; threads = lower ∷ higher ∷ []; is_open = false }

-- the higher site after it asked
abbrev pub asker : LocalState
asker = state_in Hungry (request ∷ []) []

-- the lower site after it grew hungry, and then took the Request, gave the fork and asked for it again
abbrev pub low_hungry : LocalState
low_hungry = state_in Hungry [] []

abbrev pub low_asked : LocalState
low_asked = state_in Hungry [] (request ∷ [])

abbrev pub low_gave : LocalState
low_gave = state_in Hungry (fork_given_first ∷ []) (request ∷ [])

abbrev pub low_asks : LocalState
low_asks = state_in Hungry (fork_given_first ∷ request ∷ []) (request ∷ [])

pub higher_does : (old new : Run) → ThreadStep two_workers 1 old new → RunStep two_workers old new
higher_does old new step = record { site = 1; is_site = omega arith; step = step }

pub lower_does : (old new : Run) → ThreadStep two_workers 0 old new → RunStep two_workers old new
lower_does old new step = record { site = 0; is_site = omega arith; step = step }

-- ---- the higher one asks

abbrev pub hungry : Run
hungry = moment (state_in Thinking [] []) (state_in Hungry [] []) (at_work GoesOn []) (at_work GoesOn [])

abbrev pub asks : Run
asks = moment (state_in Thinking [] []) asker (at_work GoesOn []) (at_work (HasToRing 0 kind.Request) [])

abbrev pub rang : Run
rang = moment (state_in Thinking [] []) asker (at_work GoesOn (0 ∷ [])) (at_work GoesOn [])

pub grows_hungry : RunStep two_workers (start_run two_workers) hungry
grows_hungry = higher_does (start_run two_workers) hungry (ByActing (record { goes_on = refl; kind = event.Hungry; next = refl; world = refl; as_open = refl; threads = refl }))

pub asks_for_fork : RunStep two_workers hungry asks
asks_for_fork = higher_does hungry asks (ByActing (record { goes_on = refl; kind = event.Ask 0; next = refl; world = refl; as_open = refl; threads = refl }))

pub rings_for_request : RunStep two_workers asks rang
rings_for_request = higher_does asks rang (ByRinging (record { i = 0; kind = kind.Request; anyway = false; rings = refl; world = refl; as_open = refl; threads = refl }))

pub falls_asleep : RunStep two_workers rang asleep_run
falls_asleep = higher_does rang asleep_run (BySleeping (record { goes_on = refl; idle = inl refl; unfinished = refl; put_off = λ i some. absurd (omega (arith, some)); once = λ i. omega arith; world = refl; as_open = refl; threads = refl }))

-- ---- the lower one gives the fork, whatever the thread of the higher one is at
module _ (higher : Thread) where
  abbrev pub heard_none : Run
  heard_none = moment (state_in Thinking [] []) asker (at_work GoesOn (0 ∷ [])) higher

  abbrev pub hungry_too : Run
  hungry_too = moment low_hungry asker (at_work GoesOn (0 ∷ [])) higher

  abbrev pub heard_ring : Run
  heard_ring = moment low_hungry asker (at_work (HasToTake 0) []) higher

  abbrev pub took_request : Run
  took_request = moment low_asked asker (at_work GoesOn []) higher

  abbrev pub gave_fork : Run
  gave_fork = moment low_gave asker (at_work (HasToRing 0 kind.Fork) []) higher

  -- after the ring for the fork
  abbrev pub fork_rung : Run
  fork_rung = moment low_gave asker (at_work GoesOn []) higher

  abbrev pub asked_again : Run
  asked_again = moment low_asks asker (at_work (HasToRing 0 kind.Request) []) higher

  abbrev pub request_rung : Run
  request_rung = moment low_asks asker (at_work GoesOn []) higher

  pub grows_hungry_too : RunStep two_workers heard_none hungry_too
  grows_hungry_too = lower_does heard_none hungry_too (ByActing (record { goes_on = refl; kind = event.Hungry; next = refl; world = refl; as_open = refl; threads = refl }))

  pub hears : RunStep two_workers hungry_too heard_ring
  hears = lower_does hungry_too heard_ring (ByHearing (record { goes_on = refl; turn = refl; i = 0; front = []; rest = []; bell = refl; first = refl; world = refl; as_open = refl; threads = refl }))

  pub takes : RunStep two_workers heard_ring took_request
  takes = lower_does heard_ring took_request (ByTaking (record { i = 0; takes = refl; world = refl; as_open = refl; threads = refl }))

  pub gives : RunStep two_workers took_request gave_fork
  gives = lower_does took_request gave_fork (ByActing (record { goes_on = refl; kind = event.Give 0; next = refl; world = refl; as_open = refl; threads = refl }))

  pub asks_again : RunStep two_workers fork_rung asked_again
  asks_again = lower_does fork_rung asked_again (ByActing (record { goes_on = refl; kind = event.Ask 0; next = refl; world = refl; as_open = refl; threads = refl }))

-- ---- both sleep

-- what the higher one waits for
abbrev pub its_fork : SeenWants
its_fork = wants_by_lists two_workers 1 (state_of asked_world 1)

abbrev pub sleeper : List ℕ → Thread
sleeper rings = at_work (Sleeps its_fork) rings

pub rings_unwanted : (rings : List ℕ) → RunStep two_workers (asked_again (sleeper rings)) (request_rung (sleeper (rings ++ 0 ∷ [])))
unfolding marks_of
rings_unwanted rings = lower_does (asked_again (sleeper rings)) (request_rung (sleeper (rings ++ 0 ∷ []))) (ByRinging (record { i = 0; kind = kind.Request; anyway = false; rings = refl; world = refl; as_open = refl; threads = refl }))

pub falls_asleep_too : (rings : List ℕ) → RunStep two_workers (request_rung (sleeper rings)) (hung_run rings)
falls_asleep_too rings = lower_does (request_rung (sleeper rings)) (hung_run rings) (BySleeping (record { goes_on = refl; idle = inl refl; unfinished = refl; put_off = λ i some. absurd (omega (arith, some)); once = λ i. omega arith; world = refl; as_open = refl; threads = refl }))

-- a site that sleeps does no step, if the run is not open
asleep_does_none : (plan : SeenPlan) (s : ℕ) (old new : Run) (wants : SeenWants) → (thread_of old s).doing ≡ Sleeps wants → old.is_open ≡ false → ThreadStep plan s old new → ⊥
asleep_does_none plan s old new wants asleep shut (ByActing a) = let e : GoesOn ≡ Sleeps wants = sym a.goes_on ∙ asleep in cc
asleep_does_none plan s old new wants asleep shut (ByRinging r) = let e : HasToRing r.i r.kind ≡ Sleeps wants = sym r.rings ∙ asleep in cc
asleep_does_none plan s old new wants asleep shut (ByWaking w) = let e : HasToWake w.i ≡ Sleeps wants = sym w.wakes ∙ asleep in cc
asleep_does_none plan s old new wants asleep shut (ByHearing h) = let e : GoesOn ≡ Sleeps wants = sym h.goes_on ∙ asleep in cc
asleep_does_none plan s old new wants asleep shut (ByTaking t) = let e : HasToTake t.i ≡ Sleeps wants = sym t.takes ∙ asleep in cc
asleep_does_none plan s old new wants asleep shut (BySleeping f) = let e : GoesOn ≡ Sleeps wants = sym f.goes_on ∙ asleep in cc
asleep_does_none plan s old new wants asleep shut (ByDoorbell d) = let e : true ≡ false = sym d.is_open ∙ shut in cc

-- so no site does one when both sleep
pub hung : (rings : List ℕ) → IsStuck two_workers (hung_run rings)
hung rings new step = none step.site step.is_site step.step
  where
    none : (s : ℕ) → s < 2 → ThreadStep two_workers s (hung_run rings) new → ⊥
    none zero h does = asleep_does_none two_workers 0 (hung_run rings) new _ refl refl does
    none (suc zero) h does = asleep_does_none two_workers 1 (hung_run rings) new _ refl refl does
    none (suc (suc s)) h does = omega (arith, h)
