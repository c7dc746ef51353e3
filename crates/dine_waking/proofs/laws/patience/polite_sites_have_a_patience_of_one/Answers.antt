use Rattle.std.proofs.Common.{refl}
use Rattle.dine_waking.proofs.Patient.{in_manner_patiently}
use Rattle.dine_waking.proofs.laws.patience.polite_sites_have_a_patience_of_one.Goals as goal

pub returns : goal.returns
returns c plan is_polite checked checked_then n old new leads = in_manner_patiently plan is_polite n checked checked_then (λ s. 0) old new (λ s. refl) leads
