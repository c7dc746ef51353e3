use Rattle.std.proofs.Common.{◌∙◌}
use Rattle.dine_site.specs.private.OwnEvents.{may_ask_at}
use Rattle.dine_site.proofs.own_events.MarkedEvents.{first_marked}
use Rattle.dine_site.proofs.site.SiteCore.first_ask.Goals as goal

pub returns : goal.returns
returns c = let core = c.args.self.now in c.first.ensures.value ∙ first_marked core (may_ask_at core) c.asks_now.result (c.asks_now.ensures)
