use Rattle.std.proofs.Common.{ℕ, ◌+◌, List, [], ◌∷◌, ◌++◌, length, refl, sym, ◌∙◌, ap, subst, arith}
use Rattle.dine_token.specs.declared.log_entry.Entry.{Entry}
use Rattle.dine_token.specs.Log.{meals_of}
use Rattle.dine_token.specs.Periods.{entries_of}
use Rattle.dine_token.specs.Fork.{SeenFork, IsFork, MayMove, after_move}
use Rattle.dine_token.specs.private.Fields.{seen_contents, MatchesLog}
use Rattle.dine_token.proofs.Periods.{period}
use Rattle.dine_token.proofs.shared.Forks.{room_to_move, due_small}
use Rattle.dine_token.proofs.Contents.{moved_matches, log_moved}
use Rattle.dine_token.proofs.fork.Fork.move_to.Goals as goal

pub overflow_add-first : goal.overflow_add-first
overflow_add-first c = omega (arith, c.meals_of-first.ensures.bound, due_small c.args.self.now c.args.to (subst IsFork c.self.view_is c.self.invariant.proper))

pub push_reserved-requires : goal.push_reserved-requires
push_reserved-requires c =
    let old = c.deref_mut-contents.result.now in
    let contents = subst MatchesLog (sym c.deref_mut-contents.ensures.value) c.self.invariant in
    let may : MayMove c.args.to (seen_contents old) = subst (MayMove c.args.to) (sym (ap seen_contents c.deref_mut-contents.ensures.value ∙ c.self.view_is)) c.requires in
    omega (arith, contents.capacity, room_to_move (seen_contents old) c.args.to contents.proper may, ap length contents.periods, old.periods.ok.0)

pub invariant_of-self : goal.invariant_of-self
invariant_of-self c =
    let old = c.deref_mut-contents.result.now in
    let contents = subst MatchesLog (sym c.deref_mut-contents.ensures.value) c.self.invariant in
    let view = ap seen_contents c.deref_mut-contents.ensures.value ∙ c.self.view_is in
    let may : MayMove c.args.to (seen_contents old) = subst (MayMove c.args.to) (sym view) c.requires in
    let parts = ap entries_of c.push_reserved.ensures.items ∙ log_moved old c.args.to (c.meals_of-first.result + 1) contents in
    let change = ap (λ (log : List Entry). record (seen_contents old) { log = log }) parts in
    let first = c.meals_of-first.ensures.meals ∙ ap (λ (f : SeenFork). meals_of c.args.to f.log) (sym view) in
    let opened = c.push_reserved.ensures.items ∙ ap (λ (n : ℕ). old.periods.items ++ period c.args.to (n + 1) 0 ∷ []) first in
    moved_matches old _ c.args.to contents may change refl refl refl refl opened c.push_reserved.ensures.capacity

pub returns-clause-moved : goal.returns-clause-moved
returns-clause-moved c =
    let old = c.deref_mut-contents.result.now in
    let contents = subst MatchesLog (sym c.deref_mut-contents.ensures.value) c.self.invariant in
    let parts = ap entries_of c.push_reserved.ensures.items ∙ log_moved old c.args.to (c.meals_of-first.result + 1) contents in
    ap (λ (log : List Entry). record (seen_contents old) { log = log }) parts ∙ ap (after_move c.args.to) (ap seen_contents c.deref_mut-contents.ensures.value ∙ c.self.view_is)

pub returns-clause-proper : goal.returns-clause-proper
returns-clause-proper c = (invariant_of-self c).proper
