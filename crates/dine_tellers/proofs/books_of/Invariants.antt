use Rattle.std.proofs.Common.{◌≡◌, ◌+◌, ◌-◌, ◌*◌, map, vec_items}
use Rattle.std.specs.Prelude.{sum}
use Rattle.std.specs.List.{range_with_len}
use Rattle.dine_graph.specs.Plan.{site_count, job_count}
use Rattle.dine_tellers.specs.Balances.{before, balance_of}
use Rattle.dine_tellers.specs.declared.TheConstants.{START}
use Rattle.dine_tellers.proofs.books_of.Given as goal

abbrev pub invariant-loop-site : goal.invariant-loop-site
invariant-loop-site l = record {
  balances : vec_items l.balances ≡ map (balance_of l.plan) (range_with_len 0 l.site);
  total : l.total ≡ sum (vec_items l.balances);
  came : l.came ≡ job_count l.plan (before l.plan l.site);
  kept : l.total + l.came ≡ START * l.site + job_count l.plan (site_count l.plan - 1);
}
