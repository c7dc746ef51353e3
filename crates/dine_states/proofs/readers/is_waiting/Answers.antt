use Rattle.std.proofs.Common.{Bool, ◌&&◌, not, length, refl, sym, ◌∙◌, ap}
use Rattle.std.specs.List.{list_all, range_with_len}
use Rattle.dine_rules.specs.declared.events.EventKind.TheVariants as event
use Rattle.dine_rules.specs.Steps as step
use Rattle.dine_rules.specs.Steps.{is_ready}
use Rattle.dine_rules.specs.World.{state_of}
use Rattle.dine_states.proofs.Reading.{enabled_is}
use Rattle.dine_states.proofs.readers.is_waiting.Goals as goal

pub returns-then-not-is_hungry : goal.returns-then-not-is_hungry
returns-then-not-is_hungry c state is =
    let plan = c.args.plan.now in
    let st = state_of state c.args.site in
    sym (ap (λ (b : Bool). b && not (list_all (is_ready plan c.args.site st) (range_with_len 0 (length st.traffic)))) (sym (c.is_hungry.ensures plan state is) ∙ c.if-not-is_hungry.true))

pub returns : goal.returns
returns c state is =
    let plan = c.args.plan.now in
    let st = state_of state c.args.site in
    let all = list_all (is_ready plan c.args.site st) (range_with_len 0 (length st.traffic)) in
    let hungry = sym (c.is_hungry.ensures plan state is) ∙ c.if-not-is_hungry.false in
    ap not (c.may.ensures plan state is ∙ enabled_is plan state c.args.site event.Begin step.Begin c.requires refl ∙ ap (λ (b : Bool). b && all) hungry)
    ∙ sym (ap (λ (b : Bool). b && not all) hungry)
