use Rattle.std.proofs.Common.{rules}
use Rattle.dine_token.proofs.meal.Meal.end.Goals as goal

pub returns-clause-forks : goal.returns-clause-forks
returns-clause-forks c = search rules

pub returns-clause-dirty : goal.returns-clause-dirty
returns-clause-dirty c = search rules
