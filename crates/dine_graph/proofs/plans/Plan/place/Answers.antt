use borrow.Author.Rules.{get_or_read}
use Rattle.std.proofs.Common.{◌≡◌, Some, arith, rules}
use Rattle.std.specs.List.{slice_get}
use Rattle.std.proofs.lemmas.Grind.{common_steps}
use Rattle.std.proofs.lemmas.Option.{slice_get_within}
use Rattle.dine_graph.specs.Plan.{edges_of}
use Rattle.dine_graph.proofs.shared.PlaceLemmas.{positions_ascending, place_unique}
use Rattle.dine_graph.proofs.plans.Plan.place.Goals as goal

pub returns-then-lo-site-clause-only : goal.returns-then-lo-site-clause-only
returns-then-lo-site-clause-only c = λ i at.
    let here : slice_get (edges_of c.args.self.now c.args.site) c.index.result.now.0 ≡ Some c.args.edge = grind (arith, common_steps) in
    place_unique _ i _ c.args.edge (positions_ascending c.args.self.now.edges c.args.site) at here

pub returns-then-lo-site-clause-within : goal.returns-then-lo-site-clause-within
returns-then-lo-site-clause-within c =
    let here : slice_get (edges_of c.args.self.now c.args.site) c.index.result.now.0 ≡ Some c.args.edge = grind (arith, common_steps) in
    slice_get_within _ _ c.args.edge here

pub returns-else-lo-site-clause-only : goal.returns-else-lo-site-clause-only
returns-else-lo-site-clause-only c = λ i at.
    let here : slice_get (edges_of c.args.self.now c.args.site) c.index.result.now.1 ≡ Some c.args.edge = grind (arith, common_steps) in
    place_unique _ i _ c.args.edge (positions_ascending c.args.self.now.edges c.args.site) at here

pub returns-else-lo-site-clause-within : goal.returns-else-lo-site-clause-within
returns-else-lo-site-clause-within c =
    let here : slice_get (edges_of c.args.self.now c.args.site) c.index.result.now.1 ≡ Some c.args.edge = grind (arith, common_steps) in
    slice_get_within _ _ c.args.edge here

pub returns-then-lo-site-clause-place : goal.returns-then-lo-site-clause-place
returns-then-lo-site-clause-place c = search (rules, get_or_read)

pub returns-then-lo-site-clause-plan : goal.returns-then-lo-site-clause-plan
returns-then-lo-site-clause-plan c = search (rules, get_or_read)

pub returns-else-lo-site-clause-place : goal.returns-else-lo-site-clause-place
returns-else-lo-site-clause-place c = search (rules, get_or_read)

pub returns-else-lo-site-clause-plan : goal.returns-else-lo-site-clause-plan
returns-else-lo-site-clause-plan c = search (rules, get_or_read)
