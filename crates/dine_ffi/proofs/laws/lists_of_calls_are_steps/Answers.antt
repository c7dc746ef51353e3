use Rattle.dine_ffi.proofs.ListsOfCalls.{from_opened}
use Rattle.dine_ffi.proofs.laws.lists_of_calls_are_steps.Goals as goal

pub returns : goal.returns
returns c = from_opened
