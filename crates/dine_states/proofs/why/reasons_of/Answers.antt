use Rattle.std.proofs.Common.{sym, ap}
use Rattle.dine_states.specs.Reasons.{reasons_of}
use Rattle.dine_states.proofs.why.reasons_of.Goals as goal

pub returns-in-Quit : goal.returns-in-Quit
returns-in-Quit c = sym (ap reasons_of c.in-Quit.is)

pub returns-in-Hungry : goal.returns-in-Hungry
returns-in-Hungry c = sym (ap reasons_of c.in-Hungry.is)
