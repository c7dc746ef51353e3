use Rattle.std.proofs.Common.{rules, tests, is_some, sym, ◌∙◌}
use Rattle.std.proofs.lemmas.Iterator.{YieldsList-from_slice}
use Rattle.std.proofs.lemmas.Iterator.Search.{position_from_yields_List}
use Rattle.dine_site_thread.specs.declared.site_end.SiteEnd.{SiteEnd}
use Rattle.dine_threads.proofs.collecting.first_fault.Goals as goal

pub returns-in-Some : goal.returns-in-Some
returns-in-Some g c =
    sym c.in-Some.is ∙ position_from_yields_List (λ (end : SiteEnd _ _ _ _ _). is_some end.fault) _ _ c.position.result c.position.ensures.ran (YieldsList-from_slice c.args.ends.now cc) (λ x b q k. search (rules, tests))

pub returns-in-None : goal.returns-in-None
returns-in-None g c =
    sym c.in-None.is ∙ position_from_yields_List (λ (end : SiteEnd _ _ _ _ _). is_some end.fault) _ _ c.position.result c.position.ensures.ran (YieldsList-from_slice c.args.ends.now cc) (λ x b q k. search (rules, tests))
