use Rattle.std.proofs.Common.{arith}
use Rattle.dine_threads.proofs.opening.place_lists.Goals as goal

pub returns : goal.returns
returns g c = record { no_port = c.in_ok-ports.ensures.items; room = omega (arith, c.in_ok-row.ensures.capacity); none = c.in_ok-row.ensures.len }
