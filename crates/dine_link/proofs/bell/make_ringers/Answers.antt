use Rattle.std.proofs.Common.{◌≡◌, ℕ, [], map, subst, refl, sym, ap, ◌∙◌, arith}
use Rattle.std.proofs.lemmas.Result.{IfOk-from_err}
use Rattle.std.specs.List.{range_with_len}
use Rattle.crossbeam_channel.specs.Claims.{view, IsSeatAt}
use Rattle.crossbeam_channel.specs.Ends.{sends_on}
use Rattle.dine_link.specs.declared.bell_rule.Part.TheVariants.{Waits}
use Rattle.dine_link.specs.Bells.{BellId, new_ringer}
use Rattle.dine_link.specs.private.BellRule.{IsOfRinger, with_next_ringer, next_ringer}
use Rattle.dine_link.proofs.BellSteps.{forks, ringer_more}
use Rattle.dine_link.proofs.bell.make_ringers.Goals as goal

pub another-own-requires-clause-rule : goal.another-own-requires-clause-rule
another-own-requires-clause-rule c = forks _ _ _ c.loop-number.invariant.knows

pub loop-number-preserved : goal.loop-number-preserved
loop-number-preserved c = let before = c.loop-number.invariant in record {
  seated = c.another-own.ensures.channel.0;
  knows = c.another-own.ensures.rule.0 ∙ ap with_next_ringer before.knows;
  so_far = ringer_more (sends_on c.args.sender.now) (sends_on c.in_ok-sender_too.sender_too) c.loop-number.number c.loop-number.ringers.items c.push_reserved.new.self.items (view c.another-own.result) before.so_far c.in_ok-sender_too.ensures (c.another-own.ensures.rule.1 ∙ ap next_ringer before.knows) c.push_reserved.ensures.items;
  count = omega (arith, before.count, c.push_reserved.ensures.len);
  room = omega (arith, before.room, c.push_reserved.ensures.capacity);
}

pub loop-number-init : goal.loop-number-init
loop-number-init c = record { seated = c.requires.seated; knows = c.requires.first; so_far = c.in_ok-ringers.ensures.items; count = c.in_ok-ringers.ensures.len; room = c.in_ok-ringers.ensures.capacity }

pub invariant_of-push_reserved : goal.invariant_of-push_reserved
invariant_of-push_reserved c =
    let own = sym (c.another-own.ensures.rule.1 ∙ ap next_ringer c.loop-number.invariant.knows) in
    record {
      seated = subst (λ (bell : BellId). IsSeatAt bell c.another-own.result) (sym c.in_ok-sender_too.ensures) c.another-own.ensures.channel.2;
      own = subst (IsOfRinger c.loop-number.number) own refl;
    }

pub push_reserved-requires : goal.push_reserved-requires
push_reserved-requires c = omega (arith, c.loop-number.invariant.count, c.loop-number.invariant.room)

pub returns : goal.returns
returns c =
    let made = c.loop-number.invariant in
    let all : c.loop-number.number ≡ c.args.degree = omega (arith, c.loop-number-test.false, c.loop-number.auto.number-end) in
    record {
      seated = made.seated;
      knows = made.knows ∙ ap (λ (n : ℕ). Waits n []) all;
      ringers = made.so_far ∙ ap (λ (n : ℕ). map (new_ringer (sends_on c.args.sender.now)) (range_with_len 0 n)) all;
    }

pub returns-in_err-ringers : goal.returns-in_err-ringers
returns-in_err-ringers c = record { seated = c.requires.seated; knows = IfOk-from_err _ _ c.from_residual.ensures.0; ringers = IfOk-from_err _ _ c.from_residual.ensures.0 }

pub returns-in_err-sender_too : goal.returns-in_err-sender_too
returns-in_err-sender_too c =
    let refused = c.from_residual-in_err-sender_too.ensures.0 in
    record { seated = c.loop-number.invariant.seated; knows = IfOk-from_err _ _ refused; ringers = IfOk-from_err _ _ refused }

pub returns-in_err-waker : goal.returns-in_err-waker
returns-in_err-waker c =
    let refused = c.from_residual-in_err-waker.ensures.0 in
    record { seated = c.loop-number.invariant.seated; knows = IfOk-from_err _ _ refused; ringers = IfOk-from_err _ _ refused }
