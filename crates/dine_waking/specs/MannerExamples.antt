-- Sites that are asked for a fork while they could eat, at two sites with one edge.
use Rattle.std.specs.Prelude.{ℕ, false, [], ◌∷◌}
use Rattle.dine_rules.specs.declared.letters.LetterKind.TheVariants as kind
use Rattle.dine_rules.specs.declared.phase.Phase.TheVariants.{Eating, Hungry, Thinking}
use Rattle.dine_waking.specs.Examples.{at_work, fork_given_first, request, state_in}
use Rattle.dine_waking.specs.Runs.{GoesOn, HasToRing, Run, Thread}

-- two sites when the higher one has asked for the fork, and the lower one thinks and has begun n meals; with these
-- threads
abbrev pub asked_run : ℕ → Thread → Thread → Run
asked_run n lower higher = record { world = record (state_in Thinking [] []) { ate = n } ∷ state_in Hungry (request ∷ []) [] ∷ []; threads = lower ∷ higher ∷ []; is_open = false }

-- the higher site has rung, and the lower one has not heard it
abbrev pub rung_run : ℕ → Run
rung_run n = asked_run n (at_work GoesOn (0 ∷ [])) (at_work GoesOn [])

-- the higher site has yet to ring
abbrev pub unrung_run : ℕ → Run
unrung_run n = asked_run n (at_work GoesOn []) (at_work (HasToRing 0 kind.Request) [])

-- The lower of the two workers has given the fork, and asks for it again. A Fork and a Request are in the link to the
-- higher one, which has two rings left.
abbrev pub asked_back_run : Run
asked_back_run = record {
  world = state_in Hungry (fork_given_first ∷ request ∷ []) (request ∷ []) ∷ state_in Hungry (request ∷ []) [] ∷ [];
  threads = at_work GoesOn [] ∷ at_work GoesOn (0 ∷ 0 ∷ []) ∷ [];
  is_open = false;
}

-- Between the two: the higher site has taken the Fork, which is clean. It has not taken the Request, and has the ring
-- for it left.
abbrev pub fork_taken_run : Run
fork_taken_run = record {
  world = state_in Hungry (fork_given_first ∷ request ∷ []) (request ∷ []) ∷ state_in Hungry (request ∷ []) (fork_given_first ∷ []) ∷ [];
  threads = at_work GoesOn [] ∷ at_work GoesOn (0 ∷ []) ∷ [];
  is_open = false;
}

-- the higher site has taken both letters and has begun its meal, and has given no fork
abbrev pub eats_first_run : Run
eats_first_run = record {
  world = state_in Hungry (fork_given_first ∷ request ∷ []) (request ∷ []) ∷ record (state_in Eating (request ∷ []) (fork_given_first ∷ request ∷ [])) { ate = 1 } ∷ [];
  threads = at_work GoesOn [] ∷ at_work GoesOn [] ∷ [];
  is_open = false;
}

-- The lower of the two workers grew hungry, and found no ring in its bell. Then the higher one asked it for the fork,
-- and rang.
abbrev pub rung_too_late_run : Run
rung_too_late_run = record {
  world = state_in Hungry [] [] ∷ state_in Hungry (request ∷ []) [] ∷ [];
  threads = at_work GoesOn (0 ∷ []) ∷ at_work GoesOn [] ∷ [];
  is_open = false;
}

-- the lower site has begun its meal all the same
abbrev pub eats_dirty_run : Run
eats_dirty_run = record {
  world = record (state_in Eating [] []) { ate = 1 } ∷ state_in Hungry (request ∷ []) [] ∷ [];
  threads = at_work GoesOn (0 ∷ []) ∷ at_work GoesOn [] ∷ [];
  is_open = false;
}
