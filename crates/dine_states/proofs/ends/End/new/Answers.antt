use Rattle.dine_states.proofs.Places.{new_end}
use Rattle.dine_states.proofs.ends.End.new.Goals as goal

pub returns-clause-is : goal.returns-clause-is
returns-clause-is c = new_end c.args.plan.now _ c.place.ensures.plan c.requires.site c.requires.edge c.requires.end c.place.ensures.place c.place.ensures.only c.other.ensures.other c.other.ensures.end
