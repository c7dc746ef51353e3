-- The choices lead from the start to a world, the first enabled events lead on from there, and the two counts come to
-- that of the whole run.
use Rattle.std.proofs.Common.{◌≡◌, ◌+◌, ◌∙◌, Bool, List, [], ap, ap₂, arith, subst, sym}
use Rattle.std.proofs.lemmas.Result.{IfOk-weaker}
use Rattle.dine_world.specs.Schedules.{after_choices, from_here, replay, whole_run}
use Rattle.dine_graph.specs.Plan.{SeenPlan}
use Rattle.dine_world.specs.Outcomes.{with_outcomes}
use Rattle.dine_world.specs.World.{WorldState, start}
use Rattle.dine_world.specs.Worlds.{IsWorldOf}
use Rattle.dine_log_text.specs.Logs.{world_text}
use Rattle.dine_log_text.proofs.replay.replay_text.Goals as goal

pub overflow_add-chosen : goal.overflow_add-chosen
overflow_add-chosen c =
    let plan = c.args.plan.now in
    let is_plan = c.in_ok-world.ensures.reached.is_plan in
    let chosen = c.replay-chosen.ensures plan (start plan) c.in_ok-world.ensures in
    let finished = c.finish-finished.ensures.run plan (replay plan (from_here (start plan)) c.args.choices.now).world chosen.stands in
    omega (arith, chosen.counted, finished.counted, c.whole_runs_go_on_after_the_choices.ensures.events plan c.args.choices.now, c.whole_runs_are_bounded.ensures.bounded plan c.args.choices.now is_plan, c.whole_runs_are_bounded.ensures.small plan is_plan)

pub returns : goal.returns
returns c =
    let plan = c.args.plan.now in
    let chosen = c.replay-chosen.ensures plan (start plan) c.in_ok-world.ensures in
    let finished = c.finish-finished.ensures.run plan (replay plan (from_here (start plan)) c.args.choices.now).world chosen.stands in
    let whole = c.whole_runs_go_on_after_the_choices.ensures in
    let counted : c.replay-chosen.result + c.finish-finished.result ≡ (whole_run plan c.args.choices.now).events = omega (arith, chosen.counted, finished.counted, whole.events plan c.args.choices.now) in
    let own : with_outcomes plan [] ≡ plan = c.journals_stand_for_other_outcomes.ensures.own plan in
    let world = (after_choices plan c.args.choices.now).world in
    let counts = c.replay-chosen.result + c.finish-finished.result in
    IfOk-weaker c.world_text-text.result
    (λ text. (fails : List (List Bool)) (state : WorldState) → IsWorldOf (with_outcomes plan fails) state c.finish-finished.new.self → text.items ≡ world_text plan (with_outcomes plan fails) state counts) _
    (λ text is. is [] world (subst (λ (shown : SeenPlan). IsWorldOf shown world c.finish-finished.new.self) (sym own) finished.stands) ∙ ap (λ (shown : SeenPlan). world_text plan shown world counts) own
    ∙ ap₂ (world_text plan plan) (sym (whole.world plan c.args.choices.now)) counted) c.world_text-text.ensures
