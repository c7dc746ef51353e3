use borrow.Author.Rules.{get_or_read}
use Rattle.std.proofs.Common.{ap, arith, length, rules}
use Rattle.dine_token.specs.declared.fork.Contents.{Contents}
use Rattle.dine_token.specs.Fork.{SeenFork}
use Rattle.dine_token.specs.Log.{moves_of}
use Rattle.dine_token.specs.private.Fields.{seen_fork}
use Rattle.dine_token.proofs.Periods.{length-periods_of}
use Rattle.dine_token.proofs.fork.Fork.moves.Goals as goal

pub returns-clause-moves : goal.returns-clause-moves
returns-clause-moves c =
    let contents = c.self.invariant in
    let fork = seen_fork c.self.inside in
    omega (arith, c.len.ensures, c.deref.result.now.periods.ok.0, ap (λ (k : Contents). length k.periods.items) c.deref.ensures, ap length contents.periods, length-periods_of fork.ends.0 fork.log, ap (λ (f : SeenFork). moves_of f.log) c.self.view_is)

pub returns-clause-proper : goal.returns-clause-proper
returns-clause-proper c = search (rules, get_or_read)
