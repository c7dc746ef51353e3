use Rattle.dine_waking.proofs.Doors.{closed_doors_end}
use Rattle.dine_waking.proofs.laws.open_doors.closed_doors_end_the_run.Goals as goal

pub returns : goal.returns
returns c = record { complete = closed_doors_end }
