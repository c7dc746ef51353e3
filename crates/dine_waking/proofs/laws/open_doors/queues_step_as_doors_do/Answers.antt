use Rattle.dine_waking.proofs.QueueDoors.{calls_asks, close_closes, end_ends, next_begins, put_submits}
use Rattle.dine_waking.proofs.laws.open_doors.queues_step_as_doors_do.Goals as goal

pub returns : goal.returns
returns c = record {
  put = λ door old new rings is put. put_submits door old new is rings put;
  close = λ door old new rings is shut. close_closes door old new is rings shut;
  end_epoch = λ door old new rings is ended. end_ends door old new is rings ended;
  calls = λ door old new called is busy asked. calls_asks door old new is called busy asked;
  next = λ door old new is busy taken. next_begins door old new is busy taken;
}
