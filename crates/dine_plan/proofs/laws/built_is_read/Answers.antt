use Rattle.dine_plan.proofs.ReadLemmas.{built_text, built_fault, built_plan}
use Rattle.dine_plan.proofs.laws.built_is_read.Goals as goal

pub returns-clause-texts : goal.returns-clause-texts
returns-clause-texts c = built_text

pub returns-clause-faults : goal.returns-clause-faults
returns-clause-faults c = built_fault

pub returns-clause-plans : goal.returns-clause-plans
returns-clause-plans c = built_plan
