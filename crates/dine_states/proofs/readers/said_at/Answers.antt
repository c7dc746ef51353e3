use Rattle.std.proofs.Common.{◌∙◌}
use Rattle.std.proofs.lemmas.Option.{none-some, same_Some}
use Rattle.dine_world.specs.Whereabouts.{said_in}
use Rattle.dine_rules.specs.Local.{traffic_at}
use Rattle.dine_rules.specs.World.{state_of}
use Rattle.dine_states.proofs.Reading.{place_read}
use Rattle.dine_states.proofs.readers.said_at.Goals as goal

pub returns-in-Some : goal.returns-in-Some
returns-in-Some c state is =
    let plan = c.args.plan.now in
    let end = c.args.end in
    let said = said_in (traffic_at (state_of state end.site) end.place) in
    same_Some c.in-Some.said said (c.in-Some.ensures plan state is ∙ place_read plan end said c.requires)

pub returns-in-None : goal.returns-in-None
returns-in-None c state is =
    let plan = c.args.plan.now in
    let end = c.args.end in
    let said = said_in (traffic_at (state_of state end.site) end.place) in
    absurd (none-some said (c.in-None.ensures plan state is ∙ place_read plan end said c.requires))
