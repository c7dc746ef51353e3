use Rattle.std.proofs.Common.{refl, ◌∙◌}
use Rattle.dine_rules.specs.declared.events.EventKind.TheVariants as event
use Rattle.dine_rules.specs.Steps as step
use Rattle.dine_rules.specs.World.{state_of}
use Rattle.dine_states.proofs.Reading.{enabled_is, kept_at, quit_read}
use Rattle.dine_states.proofs.readers.must_quit.Goals as goal

pub returns : goal.returns
returns c state is =
    let plan = c.args.plan.now in
    let s = c.args.site in
    c.may.ensures plan state is ∙ enabled_is plan state s event.Quit step.Quit c.requires refl ∙ quit_read plan s (state_of state s) (kept_at plan state s is.reached c.requires)
