use Rattle.std.proofs.Common.{◌≡◌, ◌≤◌, length, map, take, vec_capacity, vec_len}
use Rattle.dine_jobs.specs.Workers.{turn_of}
use Rattle.dine_jobs.proofs.open_runs.turns_left.Given as goal

-- the turns of the first sites
abbrev pub invariant-loop-site : goal.invariant-loop-site
invariant-loop-site g l =
    (vec_len l.turns ≡ l.site) × (length l.sites ≤ vec_capacity l.turns)
    × (l.turns.items ≡ map (λ site. turn_of site.job) (take l.site l.sites))
