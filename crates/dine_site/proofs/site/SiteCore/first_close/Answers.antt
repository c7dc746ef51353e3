use Rattle.std.proofs.Common.{◌≡◌, ◌∙◌, arith}
use Rattle.std.proofs.lemmas.Grind.{common_steps}
use Rattle.dine_set.specs.Marks.{marks_of}
use Rattle.dine_site.specs.Places.{can_close_at}
use Rattle.dine_site.proofs.own_events.MarkedEvents.{first_marked}
use Rattle.dine_site.proofs.site.SiteCore.first_close.Goals as goal

pub returns : goal.returns
returns c =
    let core = c.args.self.now in
    let are : c.closes.result ≡ marks_of can_close_at core.places = grind (arith, common_steps) in
    c.first.ensures.value ∙ first_marked core can_close_at c.closes.result are
