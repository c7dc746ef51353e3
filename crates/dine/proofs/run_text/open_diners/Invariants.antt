use Rattle.std.proofs.Common.{◌≡◌, ◌≤◌, map, vec_len, vec_capacity}
use Rattle.std.specs.List.{range_with_len}
use Rattle.dine_graph.specs.Plan.{site_count}
use Rattle.dine.specs.Run.{diner_of}
use Rattle.dine.proofs.run_text.open_diners.Given as goal

-- the diners of the sites so far, and room for the others
abbrev pub invariant-loop-site : goal.invariant-loop-site
invariant-loop-site l = record {
  len : vec_len l.diners ≡ l.site;
  room : site_count l.plan ≤ vec_capacity l.diners;
  diners : l.diners.items ≡ map (diner_of l.plan) (range_with_len 0 l.site);
}
