use Rattle.std.proofs.Common.{Some, None, refl, ◌∙◌}
use Rattle.dine_site.proofs.shared.own_events.NextEvents.{next_by_lists, next_from}
use Rattle.dine_site.proofs.site.SiteCore.next_event.Goals as goal

pub returns-in-Some-clause-next : goal.returns-in-Some-clause-next
returns-in-Some-clause-next c = next_from c.args.self.now (Some c.in-Some.i) _ _ c.in-Some.ensures refl refl

pub returns-in-Some-clause-by_lists : goal.returns-in-Some-clause-by_lists
returns-in-Some-clause-by_lists c plan state keeps stands = returns-in-Some-clause-next c ∙ next_by_lists plan state c.args.self.now keeps stands

pub returns-in-Some-next_phase-clause-next : goal.returns-in-Some-next_phase-clause-next
returns-in-Some-next_phase-clause-next c =
    next_from c.args.self.now None (Some c.in-Some-next_phase.kind) _ c.in_default.ensures c.in-Some-next_phase.ensures refl

pub returns-in-Some-next_phase-clause-by_lists : goal.returns-in-Some-next_phase-clause-by_lists
returns-in-Some-next_phase-clause-by_lists c plan state keeps stands = returns-in-Some-next_phase-clause-next c ∙ next_by_lists plan state c.args.self.now keeps stands

pub returns-clause-next : goal.returns-clause-next
returns-clause-next c = next_from c.args.self.now None None _ c.in_default.ensures c.in_default-next_phase.ensures c.next_announcement.ensures

pub returns-clause-by_lists : goal.returns-clause-by_lists
returns-clause-by_lists c plan state keeps stands = returns-clause-next c ∙ next_by_lists plan state c.args.self.now keeps stands
