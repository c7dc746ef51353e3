-- How many events there were, and how many there can be. The number of events that led to a world is the number of its
-- effects, and is at most the bound: the laws `events_are_counted` and `events_are_bounded`.
use Rattle.std.specs.Prelude.{ℕ, ◌+◌, ◌-◌, ◌*◌, length, sum, map, if◌then◌else◌}
use Rattle.std.specs.List.{range_with_len}
use Rattle.dine_graph.specs.Plan.{SeenPlan, site_count, edge_count, job_count, lo_of, hi_of}
use Rattle.dine_rules.specs.Local.{LocalState, Traffic, is_hungry, is_eating}
use Rattle.dine_rules.specs.World.{WorldState}

-- the letters put and taken at a place
abbrev pub letters_at : Traffic → ℕ
letters_at traffic = length traffic.put + length traffic.taken

-- The effects of a site: three for each meal, one less while it eats; one if it is hungry; one if it has quit; and one
-- for each letter put or taken. The subtraction does not go below 0, since a site that eats has begun a meal.
abbrev pub site_effects : LocalState → ℕ
site_effects state = 3 * state.ate + (if is_hungry state.phase then 1 else 0) + (if state.has_quit then 1 else 0) + sum (map letters_at state.traffic) - (if is_eating state.phase then 1 else 0)

-- the effects of all sites, which are as many as the events that led to the world
abbrev pub effects_of : WorldState → ℕ
effects_of world = sum (map site_effects world)

-- the meals that are due at the two ends of an edge
abbrev pub meals_due : SeenPlan → ℕ → ℕ
meals_due plan edge = job_count plan (lo_of plan edge) + job_count plan (hi_of plan edge)

-- The bound on the events of the world: three for each meal that is due; and for each edge four for each meal that is
-- due at its ends, and eight more. A Quit needs no number of its own: a site that quits drops at least one meal, which
-- would have three events.
abbrev pub bound_of : SeenPlan → ℕ
bound_of plan = 3 * sum (map (job_count plan) (range_with_len 0 (site_count plan)))
    + sum (map (λ edge. 4 * meals_due plan edge + 8) (range_with_len 0 (edge_count plan)))
