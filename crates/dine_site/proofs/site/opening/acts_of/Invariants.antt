use Rattle.std.proofs.Common.{◌≡◌, take, vec_len, vec_capacity}
use Rattle.dine_graph.specs.Plan.{acts_of}
use Rattle.dine_site.proofs.site.opening.acts_of.Given as goal

-- the acts of the jobs so far, and room for the others
abbrev pub invariant-loop-done : goal.invariant-loop-done
invariant-loop-done l = record {
  acts : l.acts.items ≡ take l.done (acts_of l.plan l.site);
  count : vec_len l.acts ≡ l.done;
  room : vec_capacity l.acts ≡ l.jobs;
}
