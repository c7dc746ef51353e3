use Rattle.std.proofs.Common.{◌≡◌, take, vec_len, vec_capacity}
use Rattle.dine_rules.specs.Outcomes.{with_outcomes}
use Rattle.dine_world.specs.WorldSites.{outcomes_of}
use Rattle.dine_world.specs.Worlds.{lists_of}
use Rattle.dine_world.proofs.world.opening.outcomes_of.Given as goal

-- the outcomes of the jobs so far, and room for the others
abbrev pub invariant-loop-done : goal.invariant-loop-done
invariant-loop-done l = record {
  so_far : l.outcomes.items ≡ take l.done (outcomes_of (with_outcomes l.plan (lists_of l.fails)) l.site);
  count : vec_len l.outcomes ≡ l.done;
  room : vec_capacity l.outcomes ≡ l.jobs;
}
