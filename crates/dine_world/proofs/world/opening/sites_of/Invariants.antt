use Rattle.std.proofs.Common.{◌≤◌, vec_capacity}
use Rattle.dine_graph.specs.Plan.{site_count}
use Rattle.dine_rules.specs.Outcomes.{with_outcomes}
use Rattle.dine_world.specs.Worlds.{lists_of}
use Rattle.dine_world.proofs.all_sites.WorldOpened.{AreFresh}
use Rattle.dine_world.proofs.world.opening.sites_of.Given as goal

-- the first sites are there, and there is room for all
abbrev pub invariant-loop-site : goal.invariant-loop-site
invariant-loop-site l = record {
  so_far : AreFresh (with_outcomes l.plan (lists_of l.fails)) l.site l.sites.items;
  room : site_count l.plan ≤ vec_capacity l.sites;
}
