use Rattle.std.proofs.Common.{◌∙◌}
use Rattle.dine_site.specs.private.OwnEvents.{may_say_done_at}
use Rattle.dine_site.proofs.own_events.MarkedEvents.{first_marked}
use Rattle.dine_site.proofs.site.SiteCore.first_done.Goals as goal

pub returns : goal.returns
returns c = let core = c.args.self.now in c.first.ensures.value ∙ first_marked core (may_say_done_at core) c.dones_now.result (c.dones_now.ensures)
