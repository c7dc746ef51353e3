use Rattle.std.proofs.Common.{◌≤◌, vec_len}
use Rattle.dine_jobs.proofs.executor.take_all_back.Given as goal

-- nothing that was taken back is lost
abbrev pub invariant-loop : goal.invariant-loop
invariant-loop g l =
    (goal.iterator-loop g).can_next l.iterator' × (goal.iterator-loop g).is_finite l.iterator'
    × (vec_len l.fn.left ≤ vec_len l.left)
