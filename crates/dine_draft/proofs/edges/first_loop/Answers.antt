use Rattle.std.proofs.Common.{rules, tests}
use Rattle.std.proofs.lemmas.Iterator.{YieldsList-from_slice}
use Rattle.std.proofs.lemmas.Iterator.Search.{position_from_yields_List}
use Rattle.dine_draft.specs.Refusals.{is_loop}
use Rattle.dine_draft.proofs.edges.first_loop.Goals as goal

pub returns : goal.returns
returns c =
    position_from_yields_List (is_loop c.args.sites) _ _ c.position.result c.position.ensures.ran (YieldsList-from_slice c.args.edges.now cc) (λ x b q k. search (rules, tests))
