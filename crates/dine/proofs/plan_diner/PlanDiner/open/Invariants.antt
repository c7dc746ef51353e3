use Rattle.std.proofs.Common.{◌≡◌, map, take, vec_len, vec_capacity}
use Rattle.dine.specs.PlanDiners.{fails_of}
use Rattle.dine.specs.declared.plan_diner.Chore.{Chore}
use Rattle.dine.proofs.plan_diner.PlanDiner.open.Given as goal

-- the marks of the jobs so far, and room for the others
abbrev pub invariant-loop-done : goal.invariant-loop-done
invariant-loop-done l = record {
  marks : map (λ (chore : Chore). chore.fails) l.chores.items ≡ take l.done (fails_of l.plan l.site);
  count : vec_len l.chores ≡ l.done;
  room : vec_capacity l.chores ≡ l.jobs;
}
