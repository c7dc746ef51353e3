use Rattle.std.proofs.Common.{◌∙◌}
use Rattle.dine_site.specs.private.OwnEvents.{may_give_at}
use Rattle.dine_site.proofs.own_events.MarkedEvents.{first_marked}
use Rattle.dine_site.proofs.site.SiteCore.first_give.Goals as goal

pub returns : goal.returns
returns c = let core = c.args.self.now in c.first.ensures.value ∙ first_marked core (may_give_at core) c.gives_now.result (c.gives_now.ensures)
