use Rattle.dine_rules.proofs.shared.links.WorldStreams.{reached_kept}
use Rattle.dine_rules.proofs.laws.reached_worlds_keep_their_streams.Goals as goal

pub returns-clause-sites : goal.returns-clause-sites
returns-clause-sites c plan events world is_plan reached = (reached_kept plan events world is_plan reached).sites

pub returns-clause-streams : goal.returns-clause-streams
returns-clause-streams c plan events world is_plan reached = (reached_kept plan events world is_plan reached).keeps

pub returns-clause-links : goal.returns-clause-links
returns-clause-links c plan events world is_plan reached = (reached_kept plan events world is_plan reached).links
