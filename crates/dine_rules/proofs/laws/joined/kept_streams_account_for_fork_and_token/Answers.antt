use Rattle.dine_rules.proofs.shared.two_ends.JoinedEnds.{accounts_for_fork, accounts_for_token}
use Rattle.dine_rules.proofs.laws.joined.kept_streams_account_for_fork_and_token.Goals as goal

pub returns : goal.returns
returns c = record {
  fork = λ plan s i state keeps within. accounts_for_fork plan s state i keeps within;
  token = λ plan s i state is_plan keeps within. accounts_for_token plan s state i keeps within is_plan;
}
