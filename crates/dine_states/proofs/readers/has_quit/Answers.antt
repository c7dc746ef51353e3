use Rattle.std.proofs.Common.{not, refl, sym, ◌∙◌, ap}
use Rattle.dine_rules.specs.declared.events.EventKind.TheVariants as event
use Rattle.dine_rules.specs.Steps as step
use Rattle.dine_rules.specs.World.{state_of}
use Rattle.dine_states.proofs.Reading.{eater_has_not, enabled_is, full_has_not, hungerer_has_not, hungry_has_not, idle_has, kept_at}
use Rattle.dine_states.proofs.readers.has_quit.Goals as goal

pub returns-then-is_hungry : goal.returns-then-is_hungry
returns-then-is_hungry c state is =
    let plan = c.args.plan.now in
    let s = c.args.site in
    let keeps = kept_at plan state s is.reached c.requires in
    hungry_has_not plan s (state_of state s) keeps (sym (c.is_hungry.ensures plan state is) ∙ c.if-is_hungry.true)

pub returns-then-is_eating : goal.returns-then-is_eating
returns-then-is_eating c state is =
    let plan = c.args.plan.now in
    let s = c.args.site in
    let keeps = kept_at plan state s is.reached c.requires in
    eater_has_not plan s (state_of state s) keeps (sym (c.is_eating.ensures plan state is) ∙ c.if-is_eating.true)

pub returns-then-has_eaten_all : goal.returns-then-has_eaten_all
returns-then-has_eaten_all c state is =
    let plan = c.args.plan.now in
    let s = c.args.site in
    let keeps = kept_at plan state s is.reached c.requires in
    full_has_not plan s (state_of state s) keeps (sym (c.has_eaten_all.ensures state is) ∙ c.if-has_eaten_all.true)

pub returns-then-may : goal.returns-then-may
returns-then-may c state is =
    let plan = c.args.plan.now in
    let s = c.args.site in
    let keeps = kept_at plan state s is.reached c.requires in
    hungerer_has_not plan s (state_of state s) keeps (sym (c.may.ensures plan state is ∙ enabled_is plan state s event.Hungry step.Hungry c.requires refl) ∙ c.if-may.true)

pub returns : goal.returns
returns c state is =
    let plan = c.args.plan.now in
    let s = c.args.site in
    let keeps = kept_at plan state s is.reached c.requires in
    ap not (c.must_quit.ensures state is)
    ∙ idle_has plan s (state_of state s) keeps (sym (c.is_hungry.ensures plan state is) ∙ c.if-is_hungry.false) (sym (c.is_eating.ensures plan state is) ∙ c.if-is_eating.false)
    (sym (c.has_eaten_all.ensures state is) ∙ c.if-has_eaten_all.false) (sym (c.may.ensures plan state is ∙ enabled_is plan state s event.Hungry step.Hungry c.requires refl) ∙ c.if-may.false)
