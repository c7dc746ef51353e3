use Rattle.std.proofs.Common.{refl}
use Rattle.dine_rules.proofs.shared.journals.OtherOutcomes.{acts-same, fails-are, job_names-same, jobs-same, journal-stays, names-same, own-outcomes, plan-stays, resigns-same, sites-same, states-stay, turns-same}
use Rattle.dine_rules.proofs.laws.journals.journals_stand_for_other_outcomes.Goals as goal

pub returns : goal.returns
returns c = record {
  plan = plan-stays;
  outcomes = fails-are;
  own = own-outcomes;
  sites = sites-same;
  names = names-same;
  resigning = resigns-same;
  jobs = jobs-same;
  job_names = job_names-same;
  turns = turns-same;
  acts = acts-same;
  edges = λ plan fails. refl;
  values = λ plan fails. refl;
  journal = journal-stays;
  states = states-stay;
}
