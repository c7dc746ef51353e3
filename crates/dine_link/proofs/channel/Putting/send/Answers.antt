use Rattle.std.proofs.Common.{true, ◌∷◌, [], ap, sym, ◌∙◌, arith, length, length-append}
use Rattle.crossbeam_channel.specs.Claims.{view}
use Rattle.crossbeam_channel.specs.Ends.{sends_on}
use Rattle.dine_link.specs.declared.rule.Known.{Known}
use Rattle.dine_link.specs.declared.stamped.Stamped.{Stamped}
use Rattle.dine_link.proofs.Relays.{puts}
use Rattle.dine_link.proofs.Stamping.{end_with, end_then, letters_count}
use Rattle.dine_link.proofs.channel.Putting.send.Goals as goal

pub send-requires-clause-rule : goal.send-requires-clause-rule
send-requires-clause-rule g c = (puts _ _ _ _ c.args.self.now.puts, λ items views h at. tt)

pub overflow_add-self : goal.overflow_add-self
overflow_add-self g c = omega (arith, c.args.self.now.counted, letters_count (view c.args.self.now.pass).put, c.requires.few_letters)

pub invariant_of-self : goal.invariant_of-self
invariant_of-self g c =
    let put = (view c.args.self.now.pass).put in
    let one : Stamped = record { letter = c.args.letter; stamp = c.args.stamp } in
    let longer = ap (λ (v : Known). length v.put) c.in-Ok.ensures.rule in
    record {
      seated = c.send.ensures.channel.0;
      puts = ap (λ (v : Known). v.puts) c.in-Ok.ensures.rule ∙ c.args.self.now.puts;
      counted = omega (arith, c.args.self.now.counted, longer, length-append put (one ∷ []));
    }

pub returns-in-Ok-clause-put : goal.returns-in-Ok-clause-put
returns-in-Ok-clause-put g c = rw c.in-Ok.ensures.rule (end_then (record { identity = sends_on c.args.self.now.sender; edge = c.args.self.now.edge; from = c.args.self.now.from }) c.args.self.now.refused (view c.args.self.now.pass).put (record { letter = c.args.letter; stamp = c.args.stamp }))

pub invariant_of-self-in-Err : goal.invariant_of-self-in-Err
invariant_of-self-in-Err g c =
    let same = sym c.in-Err.ensures.rule.1 in
    record {
      seated = c.send.ensures.channel.0;
      puts = ap (λ (v : Known). v.puts) c.in-Err.ensures.rule.1 ∙ c.args.self.now.puts;
      counted = c.args.self.now.counted ∙ ap (λ (v : Known). length v.put) same;
    }

pub returns-in-Err-clause-handed_back : goal.returns-in-Err-clause-handed_back
returns-in-Err-clause-handed_back g c = ap (λ (one : Stamped). one.letter) c.in-Err.ensures.rule.0

pub returns-in-Err-clause-refused : goal.returns-in-Err-clause-refused
returns-in-Err-clause-refused g c =
    let self = c.args.self.now in
    ap (λ (v : Known). end_with (record { identity = sends_on self.sender; edge = self.edge; from = self.from }) true v.put) c.in-Err.ensures.rule.1
