use Rattle.std.proofs.Common.{sym, ◌∙◌}
use Rattle.dine_rules.proofs.shared.journals.OtherOutcomes.{order-same, worlds-same}
use Rattle.dine_rules.proofs.laws.journals.outcomes_matter_only_to_sites_that_resign.Goals as goal

pub returns : goal.returns
returns c = record {
  worlds = λ plan fails events world none reaches. sym (worlds-same plan fails none events) ∙ reaches;
  back = λ plan fails events world none reaches. worlds-same plan fails none events ∙ reaches;
  orders = λ plan fails journals events none is. order-same plan fails none journals events is;
}
