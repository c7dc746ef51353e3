use Rattle.dine_rules.proofs.shared.links.WorldStreams.{reached_kept}
use Rattle.dine_rules.proofs.shared.two_ends.ValuesByLogs.{world_tells}
use Rattle.dine_rules.proofs.laws.joined.reached_worlds_have_the_values_of_their_logs.Goals as goal

pub returns : goal.returns
returns c plan events world s i is_plan reached is_site within = world_tells plan is_plan world (reached_kept plan events world is_plan reached) s i is_site within
