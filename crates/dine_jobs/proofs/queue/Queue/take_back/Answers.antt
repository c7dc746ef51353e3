-- The last task goes.
use Rattle.std.proofs.Common.{◌≡◌, ◌+◌, ◌∷◌, [], length, ap, ◌∙◌, arith}
use Rattle.std.proofs.lemmas.List.{length-append}
use Rattle.dine_jobs.proofs.queue.Queue.take_back.Goals as goal

pub invariant_of-self-2 : goal.invariant_of-self-2
invariant_of-self-2 g c =
    let was = c.args.self.now in
    let longer : length was.tasks.items ≡ length c.pop_back.new.self.items + 1 = ap length c.in_ok-last.ensures.items ∙ length-append c.pop_back.new.self.items (c.in_ok-last.last ∷ []) in
    record { all = omega (arith, was.all, longer); still = λ unclosed. absurd (let shut = c.if-not-self.false in cc) }
