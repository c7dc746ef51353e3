use Rattle.std.proofs.Common.{Some, sym, ◌∙◌, ap}
use Rattle.dine_rules.specs.Local.{traffic_at}
use Rattle.dine_rules.specs.World.{state_of}
use Rattle.dine_site.specs.declared.site.done_and_close.DoneAndClose.{DoneAndClose}
use Rattle.dine_world.specs.Whereabouts.{said_in}
use Rattle.dine_world.proofs.all_sites.LinkReads.{said_is, said_of_none, said_there}
use Rattle.dine_world.proofs.world.World.said.Goals as goal

pub returns-in_err-core : goal.returns-in_err-core
returns-in_err-core c plan world stands =
    c.from_residual.ensures ∙ sym (said_of_none plan c.args.site c.args.place (said_in (traffic_at (state_of world c.args.site) c.args.place)) (c.in_err-core.ensures.core plan world stands))

pub returns : goal.returns
returns c plan world stands =
    let there = c.in_ok-core.ensures.core plan world stands in
    ap (λ (x : DoneAndClose). Some x) (c.said.ensures ∙ said_is plan world c.args.self.now stands c.args.site c.args.place c.in_ok-core.core.now c.in_ok-core.ensures.within there)
    ∙ sym (said_there plan c.args.site c.args.place (said_in (traffic_at (state_of world c.args.site) c.args.place)) there.0)
