use Rattle.std.proofs.Common.{◌∙◌}
use Rattle.dine_site.proofs.own_events.OwnEvents.{event_behind, event_give, event_phase, event_word}
use Rattle.dine_site.proofs.site.SiteCore.own_event.Goals as goal

pub returns-in-Some : goal.returns-in-Some
returns-in-Some c = event_give c.args.self.now c.gives_now-gives.result c.gives_now-gives.ensures c.args.n c.in-Some.i c.in-Some.ensures.value

pub returns-in-Some-next_phase : goal.returns-in-Some-next_phase
returns-in-Some-next_phase c =
    event_phase c.args.self.now c.gives_now-gives.result c.gives_now-gives.ensures c.args.n c.len.result c.len.ensures.value c.in_default.ensures.none
    c.in-Some-next_phase.kind c.in-Some-next_phase.ensures c.if-behind-eq0.true

pub returns-in-Some-2 : goal.returns-in-Some-2
returns-in-Some-2 c =
    c.own_word.ensures
    ∙ event_behind c.args.self.now c.gives_now-gives.result c.gives_now-gives.ensures c.args.n c.len.result c.len.ensures.value c.in_default.ensures.none
    c.in-Some-2.field-0 c.in-Some-2.ensures c.if-behind-eq0.false

pub returns-in-None : goal.returns-in-None
returns-in-None c =
    c.own_word-in-None.ensures
    ∙ event_word c.args.self.now c.gives_now-gives.result c.gives_now-gives.ensures c.args.n c.len.result c.len.ensures.value c.in_default.ensures.none
    c.in-None.ensures
