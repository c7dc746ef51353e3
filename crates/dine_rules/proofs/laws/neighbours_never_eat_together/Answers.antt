use Rattle.dine_rules.proofs.shared.links.EatersApart.{eater_holds, eater_alone}
use Rattle.dine_rules.proofs.laws.neighbours_never_eat_together.Goals as goal

pub returns : goal.returns
returns c = record { holds_all = eater_holds; alone = eater_alone }
