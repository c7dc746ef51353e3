use Rattle.dine_waking.proofs.Doors.{rung_for}
use Rattle.dine_waking.proofs.laws.open_doors.called_sites_are_rung_for.Goals as goal

pub returns : goal.returns
returns c = record { rung = rung_for }
