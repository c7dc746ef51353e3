use Rattle.std.proofs.Common.{◌∙◌, length, ap, arith}
use Rattle.std.proofs.lemmas.List.FromFn.{length-map-range_with_len}
use Rattle.dine_graph.specs.Plan.{site_count}
use Rattle.dine_tellers.specs.Balances.{balance_of}
use Rattle.dine_tellers.proofs.print_books.Goals as goal

pub index-requires : goal.index-requires
index-requires g c =
    let plan = c.args.plan.now in
    let count = ap length c.requires.balances ∙ length-map-range_with_len (balance_of plan) 0 (site_count plan) in
    omega (arith, count, c.loop-site-test.true, c.sites-site-end.ensures.count)
