use Rattle.std.proofs.Common.{◌≡◌, Bool, false, IfOk, ap, sym, ◌∙◌, subst}
use Rattle.dine_states.specs.Schedules.{Chooses, SeenSchedule}
use Rattle.dine_web.specs.declared.open_schedule.OpenSchedule.{OpenSchedule}
use Rattle.dine_web.proofs.open_schedule.OpenSchedule.choose.Goals as goal

pub returns-else-branch : goal.returns-else-branch
returns-else-branch c =
    let old = c.args.self.now in (
      ap (λ (schedule : SeenSchedule). record { plan = old.plan; schedule = schedule }) (c.in_ok-choose.ensures.refused c.if-branch.false),
      λ is. (subst (λ (chosen : Bool). Chooses old.plan c.args.choice chosen old.schedule c.choose.new.self) c.if-branch.false (c.in_ok-choose.ensures.chosen is)).0,
    )
