use Rattle.std.proofs.Common.{refl}
use Rattle.dine_waking.proofs.Noting.{noted}
use Rattle.dine_waking.proofs.laws.code.bells_note_rings_as_runs_do.Goals as goal

pub returns : goal.returns
returns c = record {
  rung = λ doing number kind old new woken is notes. noted number kind old new woken notes doing is;
  asleep = λ wants seen room is. (refl, is);
}
