use Rattle.dine_rules.proofs.shared.one_site.Site.{start_keeps}
use Rattle.dine_rules.proofs.shared.one_site.SiteSteps.{step_keeps}
use Rattle.dine_rules.proofs.laws.streams_are_kept.Goals as goal

pub returns : goal.returns
returns c = record { start = start_keeps; step = step_keeps }
