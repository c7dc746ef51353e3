use Rattle.std.proofs.Common.{rules}
use Rattle.dine_token.proofs.held.Held.take.Goals as goal

pub returns : goal.returns
returns c = search rules
