use Rattle.std.proofs.Common.{◌≡◌, ◌≤◌, ◌+◌, ℕ, List, Some, drop, get_or, is_ok, length, slice_get, true, refl, subst, sym, ◌∙◌, arith}
use Rattle.dine_rules.specs.declared.events.Event.{Event}
use Rattle.dine_rules.specs.declared.events.EventKind.TheVariants as event
use Rattle.dine_rules.specs.World.{enabled_events, start}
use Rattle.dine_world.specs.Worlds.{WorldSteps}
use Rattle.dine_trace.proofs.Choices.{GoesThrough, drop_all, drop_event, if_ok, next_enabled, went_on, went_through}
use Rattle.dine_trace.proofs.runs.choices_in.Goals as goal

-- the event that is read past the end
abbrev past : Event
past = record { site = 0; kind = event.Take 0 }

pub loop-event-init : goal.loop-event-init
loop-event-init c = record {
  goes = λ end reaches. subst (λ (choices : List ℕ). GoesThrough c.args.plan.now c.args.events.now c.args.events.now end choices c.args.world.now) (sym c.new-choices.ensures.items)
      (record { state = start c.args.plan.now; stands = c.requires.opened; left = reaches; led = refl; many = omega arith });
}

pub number_of-choice-requires : goal.number_of-choice-requires
number_of-choice-requires c =
    let plan = c.args.plan.now in
    let events = c.args.events.now in
    let i = c.loop-event.event-index in
    let end = c.requires.accepted.0 in
    let e : Event = get_or events i past in
    let way = subst (λ (rest : List Event). GoesThrough plan events rest end c.loop-event.choices.items c.loop-event.world) (drop_event events i past c.loop-event-test.true) (c.loop-event.invariant.goes end c.requires.accepted.1) in
    (way.state, way.stands, next_enabled plan events (drop (i + 1) events) e end c.loop-event.choices.items c.loop-event.world way)

pub loop-event-preserved : goal.loop-event-preserved
loop-event-preserved c = record {
  goes = λ end reaches.
      let plan = c.args.plan.now in
      let events = c.args.events.now in
      let i = c.loop-event.event-index in
      let choices = c.loop-event.choices.items in
      let seen = c.loop-event.world in
      let new = c.step.new.self in
      let e : Event = get_or events i past in
      let rest = drop (i + 1) events in
      let way = subst (λ (some : List Event). GoesThrough plan events some end choices seen) (drop_event events i past c.loop-event-test.true) (c.loop-event.invariant.goes end reaches) in
      let is : slice_get (enabled_events plan way.state) c.number_of-choice.result ≡ Some e = c.number_of-choice.ensures way.state way.stands in
      let ok : is_ok c.step.result ≡ true = c.step.ensures.exact plan way.state way.stands ∙ next_enabled plan events rest e end choices seen way in
      let steps : WorldSteps e seen new = if_ok (WorldSteps e seen new) (new ≡ seen) c.step.result ok c.step.ensures.done in
      subst (λ (all : List ℕ). GoesThrough plan events rest end all new) (sym c.in_ok-push.ensures.items) (went_on plan events rest e end choices seen way c.number_of-choice.result new is steps);
}

pub returns : goal.returns
returns c end reaches =
    let plan = c.args.plan.now in
    let events = c.args.events.now in
    let i = c.loop-event.event-index in
    let over : length events ≤ i = omega (arith, c.loop-event-test.false) in
    went_through plan events end c.loop-event.choices.items c.loop-event.world
    (subst (λ (rest : List Event). GoesThrough plan events rest end c.loop-event.choices.items c.loop-event.world) (drop_all events i over) (c.loop-event.invariant.goes end reaches))
