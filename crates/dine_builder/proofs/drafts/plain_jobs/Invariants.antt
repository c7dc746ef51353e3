use Rattle.std.proofs.Common.{◌≡◌, map}
use Rattle.std.specs.List.{range_with_len}
use Rattle.dine_builder.specs.Draft.{plain_job}
use Rattle.dine_builder.proofs.drafts.plain_jobs.Given as goal

abbrev pub invariant-loop-i : goal.invariant-loop-i
invariant-loop-i l = l.plain.items ≡ map plain_job (range_with_len 1 l.i)
