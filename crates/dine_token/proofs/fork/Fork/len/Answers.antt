use borrow.Author.Rules.{get_or_read}
use Rattle.std.proofs.Common.{length, ap, arith, rules}
use Rattle.dine_token.specs.declared.fork.Contents.{Contents}
use Rattle.dine_token.specs.Fork.{SeenFork}
use Rattle.dine_token.specs.Log.{moves_of}
use Rattle.dine_token.specs.private.Fields.{seen_fork}
use Rattle.dine_token.proofs.shared.Bounds.{counted_lawful}
use Rattle.dine_token.proofs.shared.Forks.{length-fork}
use Rattle.dine_token.proofs.fork.Fork.len.Goals as goal

pub overflow_add-result-2 : goal.overflow_add-result-2
overflow_add-result-2 c =
    let contents = c.self.invariant in
    let fork = seen_fork c.self.inside in
    omega (arith, ap (λ (k : Contents). k.lower_meals) c.deref-contents.ensures, ap (λ (k : Contents). k.higher_meals) c.deref-contents.ensures, contents.lower_meals, contents.higher_meals, c.moves.ensures.moves, ap (λ (f : SeenFork). moves_of f.log) c.self.view_is, (counted_lawful fork.ends fork.due contents.proper.ordered fork.log contents.proper.lawful).all, length-fork fork contents.proper, contents.proper.lower_due, contents.proper.higher_due)

pub returns-clause-len : goal.returns-clause-len
returns-clause-len c =
    let contents = c.self.invariant in
    let fork = seen_fork c.self.inside in
    omega (arith, ap (λ (k : Contents). k.lower_meals) c.deref-contents.ensures, ap (λ (k : Contents). k.higher_meals) c.deref-contents.ensures, contents.lower_meals, contents.higher_meals, c.moves.ensures.moves, ap (λ (f : SeenFork). moves_of f.log) c.self.view_is, ap (λ (f : SeenFork). length f.log) c.self.view_is, (counted_lawful fork.ends fork.due contents.proper.ordered fork.log contents.proper.lawful).all)

pub returns-clause-proper : goal.returns-clause-proper
returns-clause-proper c = search (rules, get_or_read)
