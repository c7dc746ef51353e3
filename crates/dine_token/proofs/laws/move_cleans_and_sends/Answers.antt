use Rattle.dine_token.proofs.shared.Logs.{is_dirty-push_move, clean_ends_in_move, location_of-push_move, meals_of-push_move}
use Rattle.dine_token.proofs.laws.move_cleans_and_sends.Goals as goal

pub returns-clause-clean : goal.returns-clause-clean
returns-clause-clean c = is_dirty-push_move

pub returns-clause-there : goal.returns-clause-there
returns-clause-there c = location_of-push_move

pub returns-clause-meals : goal.returns-clause-meals
returns-clause-meals c = meals_of-push_move

pub returns-clause-only : goal.returns-clause-only
returns-clause-only c = clean_ends_in_move
