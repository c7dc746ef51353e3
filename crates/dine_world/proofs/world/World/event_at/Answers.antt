use Rattle.std.proofs.Common.{option_map, sym, ◌∙◌, ap}
use Rattle.dine_world.proofs.enabled_events.Counts.{event_is}
use Rattle.dine_world.proofs.enabled_events.FirstEvents.{event_of}
use Rattle.dine_world.proofs.world.World.event_at.Goals as goal

pub returns-in_err-kind : goal.returns-in_err-kind
returns-in_err-kind c plan world is =
    c.from_residual.ensures ∙ ap (option_map (event_of c.args.site)) c.in_err-kind.ensures ∙ sym (event_is plan world c.args.self.now is c.args.site c.args.n c.requires)

pub returns : goal.returns
returns c plan world is = ap (option_map (event_of c.args.site)) c.in_ok-kind.ensures ∙ sym (event_is plan world c.args.self.now is c.args.site c.args.n c.requires)
