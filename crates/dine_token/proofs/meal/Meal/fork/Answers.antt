use Rattle.std.proofs.lemmas.Grind.{elements}
use Rattle.std.proofs.Common.{arith}
use Rattle.dine_token.proofs.meal.Meal.fork.Goals as goal

pub returns : goal.returns
returns c = grind (arith, elements)
