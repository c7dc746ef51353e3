use Rattle.dine_token.proofs.shared.Bounds.{length-lawful}
use Rattle.dine_token.proofs.laws.lawful_log_is_bounded.Goals as goal

pub returns : goal.returns
returns c = length-lawful
