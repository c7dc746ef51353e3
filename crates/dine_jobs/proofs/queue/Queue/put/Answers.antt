-- The task comes last.
use Rattle.std.proofs.Common.{◌≡◌, ◌+◌, ◌∷◌, [], length, ap, ◌∙◌, arith}
use Rattle.std.proofs.lemmas.List.{length-append}
use Rattle.dine_jobs.proofs.queue.Queue.put.Goals as goal

pub invariant_of-self : goal.invariant_of-self
invariant_of-self g c =
    let was = c.args.self.now in
    let longer : length c.push_back.new.self.items ≡ length was.tasks.items + 1 = ap length c.in-Ok.ensures.items ∙ length-append was.tasks.items (c.args.task ∷ []) in
    record { all = omega (arith, was.all, longer); still = was.still }
