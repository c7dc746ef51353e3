use Rattle.std.proofs.Common.{Option, Some, None, IfSome}
use Rattle.dine_threads.proofs.starts.start_within.Goals as goal

-- what is so in any case is so where there is one
some_always : {A P : Type 0} (o : Option A) → P → IfSome o (λ _. P)
some_always None is = tt
some_always (Some x) is = is

pub returns-then-started-threads : goal.returns-then-started-threads
returns-then-started-threads g c = record { child = tt; left = tt }

pub returns : goal.returns
returns g c = record { child = c.start_thread.ensures; left = some_always c.start_thread.result c.if-started-threads.false }
