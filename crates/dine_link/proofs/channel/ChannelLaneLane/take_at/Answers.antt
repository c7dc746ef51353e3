use Rattle.std.proofs.Common.{true, ◌∷◌, [], length, ap, sym, ◌∙◌, arith, length-append}
use Rattle.crossbeam_channel.specs.Claims.{view}
use Rattle.crossbeam_channel.specs.Ends.{receives_on}
use Rattle.dine_link.proofs.Relays.{takes}
use Rattle.dine_link.proofs.Endings.{has_close-added}
use Rattle.dine_link.proofs.Stamping.{end_with, end_then, letters_count, letters_then}
use Rattle.dine_rules.specs.Letters.{has_close}
use Rattle.dine_link.specs.declared.rule.Known.{Known}
use Rattle.dine_link.specs.Stamps.{letters_in}
use Rattle.dine_link.proofs.channel.ChannelLaneLane.take_at.Goals as goal

pub receive-requires-clause-rule : goal.receive-requires-clause-rule
receive-requires-clause-rule g c = (takes _ _ c.args.rx.now.takes, λ items views h at. tt)

pub invariant_of-rx-2-clause-noted : goal.invariant_of-rx-2-clause-noted
invariant_of-rx-2-clause-noted g c = rw (ap (λ view. letters_in view.taken) c.in-Some.ensures.rule ∙ letters_then (view c.args.rx.now.pass).taken c.in-Some.got) (c.is_close-rx.ensures ∙ sym (has_close-added (letters_in (view c.args.rx.now.pass).taken) c.in-Some.got.letter c.requires.open))

pub returns-clause-taken : goal.returns-clause-taken
returns-clause-taken g c = rw c.in-Some.ensures.rule (end_then (record { identity = receives_on c.args.rx.now.receiver; edge = c.args.rx.now.edge; from = c.args.rx.now.from }) c.args.rx.now.refused (view c.args.rx.now.pass).taken c.in-Some.got)

pub returns-in_default-clause-refused : goal.returns-in_default-clause-refused
returns-in_default-clause-refused g c =
    let rx = c.args.rx.now in
    ap (λ (v : Known). end_with (record { identity = receives_on rx.receiver; edge = rx.edge; from = rx.from }) true v.taken) c.in_default.ensures.rule

pub invariant_of-rx : goal.invariant_of-rx
invariant_of-rx g c =
    let same = sym c.in_default.ensures.rule in
    record {
      seated = c.receive.ensures.channel.0;
      takes = ap (λ (v : Known). v.takes) c.in_default.ensures.rule ∙ c.args.rx.now.takes;
      counted = c.args.rx.now.counted ∙ ap (λ (v : Known). length v.taken) same;
      noted = c.args.rx.now.noted ∙ ap (λ (v : Known). has_close (letters_in v.taken)) same;
    }

pub overflow_add-rx : goal.overflow_add-rx
overflow_add-rx g c = omega (arith, c.args.rx.now.counted, letters_count (view c.args.rx.now.pass).taken, c.requires.few_letters)

pub invariant_of-rx-2-clause-takes : goal.invariant_of-rx-2-clause-takes
invariant_of-rx-2-clause-takes g c = ap (λ (v : Known). v.takes) c.in-Some.ensures.rule ∙ c.args.rx.now.takes

pub invariant_of-rx-2-clause-counted : goal.invariant_of-rx-2-clause-counted
invariant_of-rx-2-clause-counted g c =
    let longer = ap (λ (v : Known). length v.taken) c.in-Some.ensures.rule in
    omega (arith, c.args.rx.now.counted, longer, length-append (view c.args.rx.now.pass).taken (c.in-Some.got ∷ []))

pub invariant_of-rx-2-clause-seated : goal.invariant_of-rx-2-clause-seated
invariant_of-rx-2-clause-seated g c = c.receive.ensures.channel.0
