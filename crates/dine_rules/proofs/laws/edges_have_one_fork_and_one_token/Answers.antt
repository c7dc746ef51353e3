use Rattle.dine_rules.proofs.shared.links.WorldStreams.{reached_kept}
use Rattle.dine_rules.proofs.shared.links.EdgeSums.{one_fork_of_edge, one_token_of_edge}
use Rattle.dine_rules.proofs.laws.edges_have_one_fork_and_one_token.Goals as goal

pub returns : goal.returns
returns c = record {
  fork = λ plan events world edge is_plan reached within. one_fork_of_edge plan is_plan world (reached_kept plan events world is_plan reached) edge within;
  token = λ plan events world edge is_plan reached within. one_token_of_edge plan is_plan world (reached_kept plan events world is_plan reached) edge within;
}
