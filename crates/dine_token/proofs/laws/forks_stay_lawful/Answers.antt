use Rattle.dine_token.proofs.shared.Lawfulness.{IsLawful-none}
use Rattle.dine_token.proofs.shared.Forks.{IsEnd-location, IsFork-after_move, IsFork-after_meal}
use Rattle.dine_token.proofs.laws.forks_stay_lawful.Goals as goal

pub returns-clause-opened : goal.returns-clause-opened
returns-clause-opened c = IsLawful-none

pub returns-clause-eaten : goal.returns-clause-eaten
returns-clause-eaten c = IsFork-after_meal

pub returns-clause-moved : goal.returns-clause-moved
returns-clause-moved c = IsFork-after_move

pub returns-clause-end : goal.returns-clause-end
returns-clause-end c = IsEnd-location
