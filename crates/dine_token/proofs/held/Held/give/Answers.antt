use Rattle.std.proofs.Common.{rules}
use Rattle.dine_token.proofs.held.Held.give.Goals as goal

pub returns-clause-moved : goal.returns-clause-moved
returns-clause-moved c = search rules

pub returns-clause-proper : goal.returns-clause-proper
returns-clause-proper c = search rules
