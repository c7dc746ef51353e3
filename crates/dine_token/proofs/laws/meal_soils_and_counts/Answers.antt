use Rattle.dine_token.proofs.shared.Logs.{is_dirty-push_meal, location_of-push_meal, meals_of-push_own, meals_of-push_other}
use Rattle.dine_token.proofs.laws.meal_soils_and_counts.Goals as goal

pub returns-clause-dirty : goal.returns-clause-dirty
returns-clause-dirty c = is_dirty-push_meal

pub returns-clause-here : goal.returns-clause-here
returns-clause-here c = location_of-push_meal

pub returns-clause-own : goal.returns-clause-own
returns-clause-own c = meals_of-push_own

pub returns-clause-others : goal.returns-clause-others
returns-clause-others c = meals_of-push_other
