use Rattle.dine_rules.proofs.shared.two_ends.JoinedEnds.{joined_whole, joined_token}
use Rattle.dine_rules.proofs.laws.joined.joined_ends_have_one_whole_fork_and_one_token.Goals as goal

pub returns : goal.returns
returns c = record {
  fork = λ plan edge low_ate high_ate low high is_plan within accounts_low accounts_high taken. joined_whole plan edge (is_plan.ordered edge within) low_ate high_ate low high accounts_low accounts_high taken;
  token = λ plan edge low high is_plan within accounts_low accounts_high taken. joined_token plan edge (is_plan.ordered edge within) low high accounts_low accounts_high taken;
}
