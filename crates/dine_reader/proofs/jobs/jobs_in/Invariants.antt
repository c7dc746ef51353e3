use Rattle.std.proofs.Common.{◌≡◌, map}
use Rattle.std.specs.List.{list_any}
use Rattle.toml.specs.View.{view}
use Rattle.dine_graph.specs.Job.{seen_job}
use Rattle.dine_reader.specs.PlanOf.{job_in}
use Rattle.dine_reader.specs.RefusalTests.{job_is_wrong}
use Rattle.dine_reader.proofs.jobs.jobs_in.Given as goal

abbrev pub invariant-loop-table : goal.invariant-loop-table
invariant-loop-table l =
    (map seen_job l.jobs.items ≡ map job_in (map view l.yielded)) × (l.wrong ≡ list_any job_is_wrong (map view l.yielded))
