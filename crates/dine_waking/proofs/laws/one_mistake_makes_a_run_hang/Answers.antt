-- each step is computed
use Rattle.std.proofs.Common.{◌≡◌, ℕ, true, false, List, [], ◌∷◌, ◌++◌, refl, arith}
use Rattle.dine_rules.specs.declared.events.EventKind.TheVariants as event
use Rattle.dine_rules.specs.declared.letters.LetterKind.TheVariants as kind
use Rattle.dine_rules.specs.World.{IsComplete}
use Rattle.dine_waking.specs.Examples.{asleep_run, at_work, two_workers}
use Rattle.dine_waking.specs.Mistakes.{hung_run, with_one_fork_more}
use Rattle.dine_waking.specs.Runs.{ByRinging, GoesOn, LeadsBySteps, RunStep, Sleeps, Thread}
use Rattle.dine_waking.proofs.TwoWorkers.{asked_again, asks, asks_again, asks_for_fork, falls_asleep, falls_asleep_too, fork_rung, gave_fork, gives, grows_hungry, grows_hungry_too, heard_none, heard_ring, hears, hung, hungry, hungry_too, its_fork, lower_does, rang, request_rung, rings_for_request, rings_unwanted, sleeper, takes, took_request}
use Rattle.dine_waking.proofs.laws.one_mistake_makes_a_run_hang.Goals as goal

-- a site that is hungry has not finished
incomplete : (rings : List ℕ) → IsComplete two_workers (hung_run rings).world → ⊥
incomplete rings complete = let e : false ≡ true = complete.all_think 0 (omega arith) in cc

-- after the ring for the fork: the lower one asks for it again, rings and falls asleep
to_the_end : (rings : List ℕ) → LeadsBySteps two_workers 3 (fork_rung (sleeper rings)) (hung_run (rings ++ 0 ∷ []))
to_the_end rings = (asked_again (sleeper rings), asks_again (sleeper rings), (request_rung (sleeper (rings ++ 0 ∷ [])), rings_unwanted rings, (hung_run (rings ++ 0 ∷ []), falls_asleep_too (rings ++ 0 ∷ []), refl)))

-- the higher one, when it sleeps with one Fork more
abbrev oversleeper : Thread
oversleeper = at_work (Sleeps (with_one_fork_more its_fork)) []

-- the ring for the fork, which does not wake it
rings_too_early : RunStep two_workers (gave_fork oversleeper) (fork_rung (sleeper (0 ∷ [])))
rings_too_early = lower_does (gave_fork oversleeper) (fork_rung (sleeper (0 ∷ []))) (ByRinging (record { i = 0; kind = kind.Fork; anyway = false; rings = refl; world = refl; as_open = refl; threads = refl }))

-- the higher one, when it is awake
abbrev awake : List ℕ → Thread
awake rings = at_work GoesOn rings

rings_at_waking : RunStep two_workers (gave_fork (awake [])) (fork_rung (awake (0 ∷ [])))
rings_at_waking = lower_does (gave_fork (awake [])) (fork_rung (awake (0 ∷ []))) (ByRinging (record { i = 0; kind = kind.Fork; anyway = false; rings = refl; world = refl; as_open = refl; threads = refl }))

pub returns : goal.returns
returns c = record {
  last_fork = record {
    steps_before = 3;
    before = rang;
    starts = (hungry, grows_hungry, (asks, asks_for_fork, (rang, rings_for_request, refl)));
    site = 1;
    after = heard_none oversleeper;
    mistaken = record { goes_on = refl; idle = refl; unfinished = refl; silent = refl; world = refl; threads = refl };
    steps_after = 8;
    leads = (
      hungry_too oversleeper,
      grows_hungry_too oversleeper,
      (
        heard_ring oversleeper,
        hears oversleeper,
        (
          took_request oversleeper,
          takes oversleeper,
          (
            gave_fork oversleeper,
            gives oversleeper,
            (fork_rung (sleeper (0 ∷ [])), rings_too_early, to_the_end (0 ∷ [])),
          ),
        ),
      ),
    );
    stuck = hung (0 ∷ 0 ∷ []);
    incomplete = incomplete (0 ∷ 0 ∷ []);
  };
  no_waking =
      let h = sleeper [] in record {
        steps_before = 8;
        before = gave_fork h;
        starts = (
          hungry,
          grows_hungry,
          (
            asks,
            asks_for_fork,
            (
              rang,
              rings_for_request,
              (
                asleep_run,
                falls_asleep,
                (hungry_too h, grows_hungry_too h, (heard_ring h, hears h, (took_request h, takes h, (gave_fork h, gives h, refl)))),
              ),
            ),
          ),
        );
        site = 0;
        after = fork_rung (sleeper (0 ∷ []));
        mistaken = record { i = 0; kind = kind.Fork; rings = refl; world = refl; threads = refl };
        steps_after = 3;
        leads = to_the_end (0 ∷ []);
        stuck = hung (0 ∷ 0 ∷ []);
        incomplete = incomplete (0 ∷ 0 ∷ []);
      };
  ring_left =
      let h = awake [] in record {
        steps_before = 8;
        before = fork_rung (awake (0 ∷ []));
        starts = (
          hungry,
          grows_hungry,
          (
            asks,
            asks_for_fork,
            (
              rang,
              rings_for_request,
              (hungry_too h, grows_hungry_too h, (heard_ring h, hears h, (took_request h, takes h, (gave_fork h, gives h, (fork_rung (awake (0 ∷ [])), rings_at_waking, refl))))),
            ),
          ),
        );
        site = 1;
        after = fork_rung (sleeper (0 ∷ []));
        mistaken = record { goes_on = refl; idle = refl; unfinished = refl; world = refl; threads = refl };
        steps_after = 3;
        leads = to_the_end (0 ∷ []);
        stuck = hung (0 ∷ 0 ∷ []);
        incomplete = incomplete (0 ∷ 0 ∷ []);
      };
  no_ring =
      let h = sleeper [] in record {
        steps_before = 7;
        before = took_request h;
        starts = (
          hungry,
          grows_hungry,
          (
            asks,
            asks_for_fork,
            (
              rang,
              rings_for_request,
              (
                asleep_run,
                falls_asleep,
                (hungry_too h, grows_hungry_too h, (heard_ring h, hears h, (took_request h, takes h, refl))),
              ),
            ),
          ),
        );
        site = 0;
        after = fork_rung h;
        mistaken = record { goes_on = refl; kind = event.Give 0; next = refl; world = refl; threads = refl };
        steps_after = 3;
        leads = to_the_end [];
        stuck = hung (0 ∷ []);
        incomplete = incomplete (0 ∷ []);
      };
}
