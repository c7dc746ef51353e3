use Rattle.std.proofs.Common.{◌≡◌, ℕ, true, refl, sym, ◌∙◌, ap}
use Rattle.std.proofs.lemmas.Bool.{and_parts, ltb-true}
use Rattle.dine_rules.specs.declared.events.EventKind.TheVariants as event
use Rattle.dine_rules.specs.Steps as step
use Rattle.dine_site.specs.NextEvent.{can_by_itself}
use Rattle.dine_site.proofs.own_events.PutEvents.{puts_as}
use Rattle.dine_site.proofs.site.SiteCore.put.Goals as goal

pub give-requires-clause-place : goal.give-requires-clause-place
give-requires-clause-place c = ltb-true _ _ (and_parts _ _ (sym (ap (can_by_itself c.args.self.now) c.in-Give.is) ∙ c.requires.may)).0

pub give-requires-clause-may : goal.give-requires-clause-may
give-requires-clause-may c = (and_parts _ _ (sym (ap (can_by_itself c.args.self.now) c.in-Give.is) ∙ c.requires.may)).1

pub ask-requires-clause-place : goal.ask-requires-clause-place
ask-requires-clause-place c = ltb-true _ _ (and_parts _ _ (sym (ap (can_by_itself c.args.self.now) c.in-Ask.is) ∙ c.requires.may)).0

pub ask-requires-clause-may : goal.ask-requires-clause-may
ask-requires-clause-may c = (and_parts _ _ (sym (ap (can_by_itself c.args.self.now) c.in-Ask.is) ∙ c.requires.may)).1

pub done-requires-clause-place : goal.done-requires-clause-place
done-requires-clause-place c = ltb-true _ _ (and_parts _ _ (sym (ap (can_by_itself c.args.self.now) c.in-Done.is) ∙ c.requires.may)).0

pub done-requires-clause-may : goal.done-requires-clause-may
done-requires-clause-may c = (and_parts _ _ (sym (ap (can_by_itself c.args.self.now) c.in-Done.is) ∙ c.requires.may)).1

pub close-requires-clause-place : goal.close-requires-clause-place
close-requires-clause-place c = ltb-true _ _ (and_parts _ _ (sym (ap (can_by_itself c.args.self.now) c.in-Close.is) ∙ c.requires.may)).0

pub close-requires-clause-may : goal.close-requires-clause-may
close-requires-clause-may c = (and_parts _ _ (sym (ap (can_by_itself c.args.self.now) c.in-Close.is) ∙ c.requires.may)).1

pub returns-in-Done-clause-step : goal.returns-in-Done-clause-step
returns-in-Done-clause-step c = puts_as c.args.kind (event.Done c.in-Done.i) c.in-Done.i (step.Done c.in-Done.i) c.args.self.now c.done.new.self c.done.result c.in-Done.is refl (λ failed. refl) c.done.ensures.step

pub returns-in-Close-clause-step : goal.returns-in-Close-clause-step
returns-in-Close-clause-step c = puts_as c.args.kind (event.Close c.in-Close.i) c.in-Close.i (step.Close c.in-Close.i) c.args.self.now c.close.new.self c.close.result c.in-Close.is refl (λ failed. refl) c.close.ensures.step
