-- Steps of a thread in which one thing is wrong. One of them is enough to make a run of two workers hang, or to make a
-- neighbour of a polite site wait for all its meals.
use Rattle.std.specs.Prelude.{◌≡◌, ℕ, zero, suc, ◌+◌, Bool, true, false, List, [], ◌∷◌, ◌++◌, slice_set, Some, None}
use Rattle.dine_graph.specs.Plan.{SeenPlan}
use Rattle.dine_rules.specs.declared.events.EventKind.{EventKind}
use Rattle.dine_rules.specs.declared.letters.LetterKind.{LetterKind}
use Rattle.dine_rules.specs.declared.phase.Phase.TheVariants.{Hungry}
use Rattle.dine_rules.specs.Local.{neighbour_at}
use Rattle.dine_rules.specs.Wants.{SeenWants}
use Rattle.dine_rules.specs.World.{IsComplete, WorldState, state_of, world_after}
use Rattle.dine_site.specs.CoreWants.{wants_by_lists}
use Rattle.dine_site.specs.NextEvent.{next_event}
use Rattle.dine_site.specs.Standing.{has_finished}
use Rattle.dine_waking.specs.Examples.{at_work, fork_given_first, request, state_in, two_workers}
use Rattle.dine_waking.specs.Manners.{MannerStep}
use Rattle.dine_waking.specs.Runs.{GoesOn, HasToRing, IsStuck, LeadsBySteps, Run, Sleeps, number_there, start_run, thread_of}

-- these wants, with one Fork more than the site lacks
abbrev pub with_one_fork_more : SeenWants → SeenWants
with_one_fork_more wants = record wants { forks = wants.forks + 1 }

-- The site falls asleep, as in `FallsAsleep`. The mistake: it waits for one Fork more than it lacks. So the last Fork
-- that it lacks does not wake it.
pub record SleepsOverLastFork (plan : SeenPlan) (s : ℕ) (old new : Run) : Type 0 where
  pub goes_on : (thread_of old s).doing ≡ GoesOn
  pub idle : next_event plan s (state_of old.world s) ≡ None
  pub unfinished : has_finished plan s (state_of old.world s) ≡ false
  pub silent : (thread_of old s).bell ≡ []
  pub world : new.world ≡ old.world
  pub threads : new.threads ≡ slice_set old.threads s (at_work (Sleeps (with_one_fork_more (wants_by_lists plan s (state_of old.world s)))) [])

-- The site falls asleep, as in `FallsAsleep`. The mistake: its bell may have any rings left, and keeps them.
pub record SleepsOverRings (plan : SeenPlan) (s : ℕ) (old new : Run) : Type 0 where
  pub goes_on : (thread_of old s).doing ≡ GoesOn
  pub idle : next_event plan s (state_of old.world s) ≡ None
  pub unfinished : has_finished plan s (state_of old.world s) ≡ false
  pub world : new.world ≡ old.world
  pub threads : new.threads ≡ slice_set old.threads s (at_work (Sleeps (wants_by_lists plan s (state_of old.world s))) (thread_of old s).bell)

-- The site rings for the letter that it put at place i, as in `RingsBell`. The mistake: the ring is left in the bell of
-- the neighbour, and wakes nobody.
pub record RingsInVain (plan : SeenPlan) (s : ℕ) (old new : Run) : Type 0 where
  pub i : ℕ
  pub kind : LetterKind
  pub rings : (thread_of old s).doing ≡ HasToRing i kind
  pub world : new.world ≡ old.world
  pub threads : new.threads ≡ slice_set (slice_set old.threads s (at_work GoesOn (thread_of old s).bell))
      (neighbour_at plan s i) (at_work (thread_of old (neighbour_at plan s i)).doing ((thread_of old (neighbour_at plan s i)).bell ++ number_there plan s i ∷ []))

-- The site does the event that it would do first without a letter, as in `Acts`. The mistake: if the event puts a
-- letter, nobody rings for it.
pub record ActsUnheard (plan : SeenPlan) (s : ℕ) (old new : Run) : Type 0 where
  pub goes_on : (thread_of old s).doing ≡ GoesOn
  pub kind : EventKind
  pub next : next_event plan s (state_of old.world s) ≡ Some kind
  pub world : world_after plan old.world (record { site = s; kind = kind }) ≡ Some new.world
  pub threads : new.threads ≡ slice_set old.threads s (at_work GoesOn (thread_of old s).bell)

-- The mistake makes a run of this plan hang at `end`. From the start, steps lead to a moment at which a site does one
-- step with the mistake. Then steps lead to `end`, where no site can do a step, although the world is not complete.
pub record HangsBy (mistake : SeenPlan → ℕ → Run → Run → Type 0) (plan : SeenPlan) (end : Run) : Type 0 where
  pub steps_before : ℕ
  pub before : Run
  pub starts : LeadsBySteps plan steps_before (start_run plan) before
  pub site : ℕ
  pub after : Run
  pub mistaken : mistake plan site before after
  pub steps_after : ℕ
  pub leads : LeadsBySteps plan steps_after after end
  pub stuck : IsStuck plan end
  pub incomplete : IsComplete plan end.world → ⊥

-- the two workers after the lower one gave the fork and asked for it again; nothing of it was taken
abbrev pub hung_world : WorldState
hung_world = state_in Hungry (fork_given_first ∷ request ∷ []) (request ∷ []) ∷ state_in Hungry (request ∷ []) [] ∷ []

-- At this moment each of them sleeps and waits for its fork. The fork of the higher one is in its link. Its bell has
-- these rings left.
abbrev pub hung_run : List ℕ → Run
hung_run rings = record {
  world = hung_world;
  threads = at_work (Sleeps (wants_by_lists two_workers 0 (state_of hung_world 0))) []
      ∷ at_work (Sleeps (wants_by_lists two_workers 1 (state_of hung_world 1))) rings ∷ [];
  is_open = false;
}

-- n steps of polite sites lead from one moment of a run to the other, as in `LeadsInManner`. The mistake: a site that
-- has checked its bell once does not check it again after its own steps. `checked` says which sites have.
abbrev pub LeadsByOneCheck : SeenPlan → (ℕ → Bool) → ℕ → Run → Run → Type 0
LeadsByOneCheck plan checked zero old new = old ≡ new
LeadsByOneCheck plan checked (suc n) old new = (next : Run) × MannerStep plan (λ s. true) checked old next × LeadsByOneCheck plan checked n next new
