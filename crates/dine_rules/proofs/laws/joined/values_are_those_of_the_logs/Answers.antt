use Rattle.dine_rules.proofs.shared.two_ends.ValuesByLogs.{forks_linked, high_tells, low_tells, whole_adds_up}
use Rattle.dine_rules.proofs.laws.joined.values_are_those_of_the_logs.Goals as goal

pub returns : goal.returns
returns c = record {
  low = λ plan edge low_ate high_ate low high is_plan within accounts_low accounts_high linked. low_tells plan edge low_ate high_ate low high (is_plan.ordered edge within) accounts_low accounts_high linked;
  high = λ plan edge low_ate high_ate low high is_plan within accounts_low accounts_high linked. high_tells plan edge low_ate high_ate low high (is_plan.ordered edge within) accounts_low accounts_high linked;
  linked = forks_linked;
  added_up = λ plan edge low_ate high_ate log is_plan within all whole. whole_adds_up plan edge low_ate high_ate log (is_plan.ordered edge within) all whole;
}
