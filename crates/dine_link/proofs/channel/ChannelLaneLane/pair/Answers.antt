use Rattle.std.proofs.Common.{◌≡◌, refl, sym, ap, ◌∙◌, length, subst}
use Rattle.dine_rules.specs.Letters.{has_close}
use Rattle.crossbeam_channel.specs.Claims.{view, IsSeatAt}
use Rattle.dine_link.specs.Channels.{Channel}
use Rattle.dine_link.specs.Links.{LinkName}
use Rattle.dine_link.specs.Stamps.{letters_in, moments_in}
use Rattle.dine_link.specs.declared.rule.Known.{Known}
use Rattle.dine_link.specs.private.Rule.{fresh_pass, putting_part, taking_part}
use Rattle.dine_link.proofs.Relays.{begins, forks}
use Rattle.dine_link.proofs.channel.ChannelLaneLane.pair.Goals as goal

pub bounded_with-requires-clause-rule : goal.bounded_with-requires-clause-rule
bounded_with-requires-clause-rule c = begins

pub another-taking-requires-clause-channel : goal.another-taking-requires-clause-channel
another-taking-requires-clause-channel c = c.in-Ok.ensures.2

pub another-taking-requires-clause-rule : goal.another-taking-requires-clause-rule
another-taking-requires-clause-rule c =
    let new = sym c.in-Ok.ensures.3 in
    forks _ _ (subst (λ (v : Known). v.puts ≡ fresh_pass.puts) new refl) (subst (λ (v : Known). v.takes ≡ fresh_pass.takes) new refl)

pub invariant_of-tx : goal.invariant_of-tx
invariant_of-tx c =
    let is : view c.another-taking.new.pass ≡ putting_part fresh_pass = c.another-taking.ensures.rule.0 ∙ ap putting_part c.in-Ok.ensures.3 in
    record { seated = c.another-taking.ensures.channel.0; puts = ap (λ (v : Known). v.puts) is; counted = sym (ap (λ (v : Known). length v.put) is) }

pub invariant_of-rx : goal.invariant_of-rx
invariant_of-rx c =
    let is : view c.another-taking.result ≡ taking_part fresh_pass = c.another-taking.ensures.rule.1 ∙ ap taking_part c.in-Ok.ensures.3 in
    record {
      seated = subst (λ (channel : Channel). IsSeatAt channel c.another-taking.result) (sym c.in-Ok.ensures.0) c.another-taking.ensures.channel.2;
      takes = ap (λ (v : Known). v.takes) is;
      counted = sym (ap (λ (v : Known). length v.taken) is);
      noted = sym (ap (λ (v : Known). has_close (letters_in v.taken)) is);
    }

pub invariant_of-result : goal.invariant_of-result
invariant_of-result c = record { unclosed = ap (λ (v : Known). has_close (letters_in v.put)) (c.another-taking.ensures.rule.0 ∙ ap putting_part c.in-Ok.ensures.3) }

pub returns-clause-name : goal.returns-clause-name
returns-clause-name c = (refl, refl)

pub returns-clause-empty : goal.returns-clause-empty
returns-clause-empty c = (
  ap (λ (v : Known). letters_in v.put) (c.another-taking.ensures.rule.0 ∙ ap putting_part c.in-Ok.ensures.3),
  ap (λ (v : Known). letters_in v.taken) (c.another-taking.ensures.rule.1 ∙ ap taking_part c.in-Ok.ensures.3),
)

pub returns-clause-untimed : goal.returns-clause-untimed
returns-clause-untimed c = (
  ap (λ (v : Known). moments_in v.put) (c.another-taking.ensures.rule.0 ∙ ap putting_part c.in-Ok.ensures.3),
  ap (λ (v : Known). moments_in v.taken) (c.another-taking.ensures.rule.1 ∙ ap taking_part c.in-Ok.ensures.3),
)

pub returns-clause-unrefused : goal.returns-clause-unrefused
returns-clause-unrefused c = (refl, refl)

pub returns-clause-pair : goal.returns-clause-pair
returns-clause-pair c =
    let name : Channel → LinkName Channel = λ channel. record { identity = channel; edge = c.args.edge; from = c.args.from } in
    ap name c.in-Ok.ensures.0
