use Rattle.dine_rules.proofs.shared.two_ends.JoinedEnds.{linked_fork, linked_token}
use Rattle.dine_rules.proofs.laws.joined.linked_ends_have_at_most_one_fork_and_token.Goals as goal

pub returns : goal.returns
returns c = record {
  fork = λ plan edge low_ate high_ate low high is_plan within accounts_low accounts_high linked. linked_fork plan edge (is_plan.ordered edge within) low_ate high_ate low high accounts_low.chained accounts_high.chained linked;
  token = λ plan edge low high is_plan within accounts_low accounts_high linked. linked_token plan edge (is_plan.ordered edge within) low high accounts_low accounts_high linked;
}
