use Rattle.std.proofs.Common.{not, sym, ◌∙◌, ap}
use Rattle.dine_states.specs.private.ReasonsAtEnds.{holds_at}
use Rattle.dine_states.proofs.why.holds.Goals as goal

pub returns-in-NotHeard : goal.returns-in-NotHeard
returns-in-NotHeard c state is = ap (λ said. not said.done_taken) (c.said_at-in-NotHeard.ensures state is) ∙ sym (ap (holds_at c.args.plan.now state c.args.end.site c.args.end.place) c.in-NotHeard.is)

pub returns-in-Hungry : goal.returns-in-Hungry
returns-in-Hungry c state is = c.is_hungry.ensures c.args.plan.now state is ∙ sym (ap (holds_at c.args.plan.now state c.args.end.site c.args.end.place) c.in-Hungry.is)

pub returns-in-NotHungry : goal.returns-in-NotHungry
returns-in-NotHungry c state is = ap not (c.is_hungry-in-NotHungry.ensures c.args.plan.now state is) ∙ sym (ap (holds_at c.args.plan.now state c.args.end.site c.args.end.place) c.in-NotHungry.is)

pub returns-in-Eating : goal.returns-in-Eating
returns-in-Eating c state is = c.is_eating.ensures c.args.plan.now state is ∙ sym (ap (holds_at c.args.plan.now state c.args.end.site c.args.end.place) c.in-Eating.is)

pub returns-in-NotEating : goal.returns-in-NotEating
returns-in-NotEating c state is = ap not (c.is_eating-in-NotEating.ensures c.args.plan.now state is) ∙ sym (ap (holds_at c.args.plan.now state c.args.end.site c.args.end.place) c.in-NotEating.is)
