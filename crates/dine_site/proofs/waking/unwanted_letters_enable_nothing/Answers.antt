use Rattle.dine_site.proofs.shared.own_events.Unwanted.{unwanted_next, unwanted_wants}
use Rattle.dine_site.proofs.waking.unwanted_letters_enable_nothing.Goals as goal

pub returns : goal.returns
returns c = record { next = unwanted_next; wants = unwanted_wants }
