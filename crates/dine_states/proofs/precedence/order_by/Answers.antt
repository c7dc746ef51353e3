use Rattle.std.proofs.Common.{◌≡◌, ℕ, List, [], ◌∷◌, ◌++◌, Option, Some, None, position, sym, ◌∙◌, ap, subst, arith}
use Rattle.std.proofs.lemmas.List.{nil_from_length}
use Rattle.std.proofs.lemmas.List.Quantifiers.{position-Some}
use Rattle.dine_states.specs.Orders.{is_free}
use Rattle.std.proofs.lemmas.Bool.{eqb-false, eqb-true}
use Rattle.dine_states.proofs.Orders.{IsBegun, end_order, grow_order}
use Rattle.dine_states.proofs.Stuck.{stuck_has_no_order}
use Rattle.dine_states.proofs.precedence.order_by.Goals as goal

pub loop-left-preserved : goal.loop-left-preserved
loop-left-preserved c =
    let n = c.args.n in
    let pairs = c.args.pairs.now in
    let left = c.loop-left.left.items in
    let order = c.loop-left.order.items in
    let place = c.in-Some.place in
    let x = c.remove.result in
    let found = subst (λ (l : List ℕ). ◌≡◌ {A = Option ℕ} (Some place) (position (is_free pairs l) l)) c.as_slice.ensures.value c.in-Some.ensures in
    let w = position-Some (is_free pairs left) left place x (sym found) in
    let grown = grow_order n pairs order left place x w.0 c.remove.ensures.value (ap (is_free pairs left) c.remove.ensures.value ∙ w.1) c.loop-left.invariant in
    subst (λ (l : List ℕ). IsBegun n pairs l c.remove.new.self.items) (sym c.in_ok-push-in-Some.ensures.items) (subst (IsBegun n pairs (order ++ x ∷ [])) (sym c.remove.ensures.items) grown)

pub returns : goal.returns
returns c =
    let none = eqb-true c.loop-left.left.len 0 (sym c.is_empty.ensures ∙ c.loop-left-test.false) in
    end_order c.args.n c.args.pairs.now c.loop-left.order.items c.loop-left.left.items (nil_from_length c.loop-left.left.items (omega (arith, none, c.loop-left.left.ok.0))) c.loop-left.invariant

pub returns-in-None : goal.returns-in-None
returns-in-None c order is =
    let pairs = c.args.pairs.now in
    let left = c.loop-left.left.items in
    let found = subst (λ (l : List ℕ). ◌≡◌ {A = Option ℕ} None (position (is_free pairs l) l)) c.as_slice.ensures.value c.in-None.ensures in
    let some = eqb-false c.loop-left.left.len 0 (sym c.is_empty.ensures ∙ c.loop-left-test.true) in
    stuck_has_no_order c.args.n pairs c.loop-left.order.items left (omega (arith, some, c.loop-left.left.ok.0)) (sym found) c.loop-left.invariant order is
