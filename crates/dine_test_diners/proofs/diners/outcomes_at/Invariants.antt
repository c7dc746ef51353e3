use Rattle.std.proofs.Common.{◌≡◌, vec_len}
use Rattle.dine_test_diners.proofs.diners.outcomes_at.Given as goal

abbrev pub invariant-loop-job : goal.invariant-loop-job
invariant-loop-job l = vec_len l.own ≡ l.job
