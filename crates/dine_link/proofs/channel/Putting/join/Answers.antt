use Rattle.std.proofs.Common.{◌≡◌, List, ◌++◌, subst, refl, sym, ◌∙◌, ap}
use Rattle.std.proofs.lemmas.List.{map-append}
use Rattle.crossbeam_channel.specs.Claims.{view, IsSeatAt}
use Rattle.dine_link.specs.declared.rule.Known.{Known}
use Rattle.dine_link.specs.declared.stamped.Stamped.{Stamped}
use Rattle.dine_link.specs.Channels.{Channel}
use Rattle.dine_link.specs.Stamps.{letters_in}
use Rattle.dine_link.proofs.Relays.{merges, learns}
use Rattle.dine_link.proofs.Endings.{whole}
use Rattle.dine_link.proofs.Stamping.{letters_count, letters_prefix, moments_prefix}
use Rattle.dine_link.proofs.channel.Putting.join.Goals as goal

pub absorb-requires-clause-channel : goal.absorb-requires-clause-channel
absorb-requires-clause-channel c = (c.args.self.seated, subst (λ (channel : Channel). IsSeatAt channel c.args.rx.pass) (ap (λ link. link.identity) c.requires.pair) c.args.rx.seated)

pub absorb-requires-clause-rule : goal.absorb-requires-clause-rule
absorb-requires-clause-rule c = merges _ _ _ _ c.args.self.puts c.args.rx.takes

pub learn_as-requires-clause-rule : goal.learn_as-requires-clause-rule
learn_as-requires-clause-rule c = learns _ _ (ap (λ (v : Known). v.puts) c.absorb.ensures.rule) (ap (λ (v : Known). v.takes) c.absorb.ensures.rule)

pub returns-clause-whole : goal.returns-clause-whole
returns-clause-whole c = λ closed.
    let P : Known → Type 0 = λ view. view.put ≡ view.taken ++ c.learn_as.ensures.rule.0 in
    let e = subst P c.absorb.ensures.rule c.learn_as.ensures.rule.1 in
    let queue : List Stamped = c.learn_as.ensures.rule.0 in
    let f : letters_in (view c.args.self.pass).put ≡ letters_in (view c.args.rx.pass).taken ++ letters_in queue = ap letters_in e ∙ map-append (λ (one : Stamped). one.letter) (view c.args.rx.pass).taken queue in
    rw (c.and_refused.ensures, c.from_ends-end.ensures, c.learn_as.ensures.channel.2, c.absorb.ensures.rule) (whole (letters_in (view c.args.self.pass).put) (letters_in (view c.args.rx.pass).taken) (letters_in queue) f closed c.requires.close_last)

pub returns-clause-prefix : goal.returns-clause-prefix
returns-clause-prefix c =
    let P : Known → Type 0 = λ view. view.put ≡ view.taken ++ c.learn_as.ensures.rule.0 in
    let e = subst P c.absorb.ensures.rule c.learn_as.ensures.rule.1 in
    rw (c.and_refused.ensures, c.from_ends-end.ensures, c.learn_as.ensures.channel.2, c.absorb.ensures.rule) (letters_prefix (view c.args.rx.pass).taken (view c.args.self.pass).put (c.learn_as.ensures.rule.0, sym e))

pub returns-clause-moments : goal.returns-clause-moments
returns-clause-moments c =
    let P : Known → Type 0 = λ view. view.put ≡ view.taken ++ c.learn_as.ensures.rule.0 in
    let e = subst P c.absorb.ensures.rule c.learn_as.ensures.rule.1 in
    rw (c.and_refused.ensures, c.from_ends-end.ensures, c.learn_as.ensures.channel.2, c.absorb.ensures.rule) (moments_prefix (view c.args.rx.pass).taken (view c.args.self.pass).put (c.learn_as.ensures.rule.0, sym e))

pub from_ends-end-requires-clause-put : goal.from_ends-end-requires-clause-put
from_ends-end-requires-clause-put c = rw (c.learn_as.ensures.channel.2, c.absorb.ensures.rule) (c.args.self.counted ∙ sym (letters_count (view c.args.self.pass).put))

pub from_ends-end-requires-clause-taken : goal.from_ends-end-requires-clause-taken
from_ends-end-requires-clause-taken c = rw (c.learn_as.ensures.channel.2, c.absorb.ensures.rule) (c.args.rx.counted ∙ sym (letters_count (view c.args.rx.pass).taken))

pub from_ends-end-requires-clause-shut : goal.from_ends-end-requires-clause-shut
from_ends-end-requires-clause-shut c = rw (c.learn_as.ensures.channel.2, c.absorb.ensures.rule) c.requires.shut

pub from_ends-end-requires-clause-prefix : goal.from_ends-end-requires-clause-prefix
from_ends-end-requires-clause-prefix c = rw c.learn_as.ensures.channel.2 (letters_prefix (view c.absorb.new.pass).taken (view c.absorb.new.pass).put (c.learn_as.ensures.rule.0, sym c.learn_as.ensures.rule.1))

pub from_ends-end-requires-clause-close_last : goal.from_ends-end-requires-clause-close_last
from_ends-end-requires-clause-close_last c = rw (c.learn_as.ensures.channel.2, c.absorb.ensures.rule) c.requires.close_last

pub returns-clause-lists : goal.returns-clause-lists
returns-clause-lists c = rw (c.and_refused.ensures, c.from_ends-end.ensures, c.learn_as.ensures.channel.2, c.absorb.ensures.rule) refl

pub returns-clause-close_last : goal.returns-clause-close_last
returns-clause-close_last c = rw (c.and_refused.ensures, c.from_ends-end.ensures, c.learn_as.ensures.channel.2, c.absorb.ensures.rule) c.requires.close_last
