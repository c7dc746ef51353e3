use borrow.Author.Rules.{get_or_read}
use Rattle.std.proofs.Common.{sym, ◌∙◌, ap, subst, ℕ, rules}
use Rattle.dine_token.specs.declared.fork.Contents.{Contents}
use Rattle.dine_token.specs.Fork.{SeenFork, IsEnd}
use Rattle.dine_token.specs.private.Fields.{seen_fork}
use Rattle.dine_token.proofs.shared.Forks.{IsEnd-location}
use Rattle.dine_token.proofs.fork.Fork.at.Goals as goal

pub returns-clause-end : goal.returns-clause-end
returns-clause-end c =
    let P : ℕ → Type 0 = λ e. IsEnd (seen_fork c.self.inside) e in
    let Q : SeenFork → Type 0 = λ f. IsEnd f c.deref.result.now.location in
    subst Q c.self.view_is (subst P (sym (ap (λ (k : Contents). k.location) c.deref.ensures ∙ c.self.invariant.location)) (IsEnd-location (seen_fork c.self.inside) c.self.invariant.proper))

pub returns-clause-at : goal.returns-clause-at
returns-clause-at c = search (rules, get_or_read)
