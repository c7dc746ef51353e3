use Rattle.std.proofs.Common.{refl, ◌≡◌, ◌∙◌, sym, ap, suc, ◌-◌, false, set, arith, rules}
use Rattle.dine_set.specs.Marks.{nth_position}
use Rattle.dine_set.proofs.shared.NthPosition.{nth_position-zero, nth_position-none, nth_position-None, nth_position-suc, position-Some}
use Rattle.dine_set.proofs.bit_set.BitSet64.nth.Goals as goal

pub returns-then-left-eq0-clause-value : goal.returns-then-left-eq0-clause-value
returns-then-left-eq0-clause-value c =
    c.in-Some.ensures.value ∙ sym (nth_position-zero (λ b. b) c.loop-i.rest) ∙ ap (λ n. nth_position (λ b. b) n c.loop-i.rest) (sym c.if-left-eq0.true) ∙ sym c.loop-i.invariant

pub loop-i-preserved : goal.loop-i-preserved
loop-i-preserved c =
    let one_more : c.loop-i.left ≡ suc (c.loop-i.left - 1) = omega arith in
    c.loop-i.invariant ∙ ap (λ n. nth_position (λ b. b) n c.loop-i.rest) one_more
    ∙ nth_position-suc (λ b. b) (c.loop-i.left - 1) c.loop-i.rest false refl
    ∙ ap (nth_position (λ b. b) (c.loop-i.left - 1)) (ap (λ i. set c.loop-i.rest i false) (position-Some (λ b. b) c.loop-i.rest c.in-Some.i (sym c.in-Some.ensures.value)) ∙ sym c.remove.ensures)

pub returns-clause-value : goal.returns-clause-value
returns-clause-value c = sym (c.loop-i.invariant ∙ nth_position-none (λ b. b) c.loop-i.left c.loop-i.rest (sym c.in_default.ensures.value))

pub returns-clause-none : goal.returns-clause-none
returns-clause-none c = nth_position-None (λ b. b) c.args.n c.args.self.now (sym (returns-clause-value c))

pub loop-i-init : goal.loop-i-init
loop-i-init c = search rules
