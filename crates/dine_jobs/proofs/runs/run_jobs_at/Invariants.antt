use Rattle.dine_jobs.proofs.runs.run_jobs_at.Given as goal

-- the plan, and the jobs as they are before the run
abbrev pub ghosts-run_given : goal.ghosts-run_given
ghosts-run_given g a = record { given = a.jobs.items; plan = a.plan.now }
