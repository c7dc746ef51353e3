use borrow.Author.Rules.{get_or_read}
use Rattle.std.proofs.Common.{◌≡◌, ◌<◌, true, sym, subst, rules}
use Rattle.std.specs.List.{All}
use Rattle.std.specs.List.Sorted.{IsStrictlyIncreasing}
use Rattle.dine_graph.specs.Plan.{is_end, edges_of, edge_count}
use Rattle.dine_graph.proofs.shared.PlaceLemmas.{positions_ascending, positions_each, positions_within}
use Rattle.dine_graph.proofs.plans.Plan.edges_of.Goals as goal

pub returns-clause-ascending : goal.returns-clause-ascending
returns-clause-ascending c =
    let list : c.as_slice.result.now ≡ edges_of c.args.self.now c.args.site = search rules in
    subst IsStrictlyIncreasing (sym list) (positions_ascending c.args.self.now.edges c.args.site)

pub returns-clause-ends : goal.returns-clause-ends
returns-clause-ends c =
    let list : c.as_slice.result.now ≡ edges_of c.args.self.now c.args.site = search rules in
    subst (All (λ e. is_end c.args.self.now c.args.site e ≡ true)) (sym list) (positions_each c.args.self.now.edges c.args.site)

pub returns-clause-within : goal.returns-clause-within
returns-clause-within c =
    let list : c.as_slice.result.now ≡ edges_of c.args.self.now c.args.site = search rules in
    subst (All (λ e. e < edge_count c.args.self.now)) (sym list) (positions_within c.args.self.now.edges c.args.site)

pub returns-clause-edges : goal.returns-clause-edges
returns-clause-edges c = search (rules, get_or_read)

pub returns-clause-plan : goal.returns-clause-plan
returns-clause-plan c = search (rules, get_or_read)
