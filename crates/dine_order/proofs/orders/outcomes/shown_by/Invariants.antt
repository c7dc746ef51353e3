use Rattle.std.proofs.Common.{◌≡◌, ◌≤◌, map, vec_capacity, vec_len}
use Rattle.std.specs.List.{range_with_len}
use Rattle.dine_graph.specs.Plan.{job_count, site_count}
use Rattle.dine_rules.specs.Journals.{journal_of}
use Rattle.dine_world.specs.Worlds.{lists_of}
use Rattle.dine_rules.specs.Shown.{shown_in}
use Rattle.dine_order.proofs.orders.outcomes.shown_by.Given as goal

-- what the journals of the sites so far show, and capacity for the others
abbrev pub invariant-loop-site : goal.invariant-loop-site
invariant-loop-site g l = record {
  so_far : lists_of l.fails.items ≡ map (λ s. shown_in (job_count l.plan s) (journal_of (map g.J.AsSlice.items l.journals) s)) (range_with_len 0 l.site);
  len : vec_len l.fails ≡ l.site;
  room : site_count l.plan ≤ vec_capacity l.fails;
}
