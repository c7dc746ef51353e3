use Rattle.std.proofs.Common.{◌∙◌, ap, ap₂}
use Rattle.dine_set.specs.Marks.{marks_of, marks_without}
use Rattle.dine_site.specs.Places.{can_say_done_at}
use Rattle.dine_site.proofs.own_events.Marked.{dones_by_sets}
use Rattle.dine_site.proofs.site.marked.MarkedPlaces.dones.Goals as goal

pub returns-clause-marks : goal.returns-clause-marks
returns-clause-marks c = c.difference.ensures ∙ ap₂ marks_without c.self.invariant.unclosed c.self.invariant.done_put ∙ dones_by_sets c.self.inside.items.items
    ∙ ap (marks_of can_say_done_at) c.self.view_is
