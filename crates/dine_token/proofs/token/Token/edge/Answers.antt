use Rattle.std.proofs.Common.{rules}
use Rattle.dine_token.proofs.token.Token.edge.Goals as goal

pub returns : goal.returns
returns c = search rules
