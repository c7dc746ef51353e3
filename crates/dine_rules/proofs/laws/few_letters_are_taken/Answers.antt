use Rattle.dine_rules.proofs.one_site.TakenBounds.{forks_taken_within, requests_taken_within, dones_taken_within, closes_taken_within, takes_few}
use Rattle.dine_rules.proofs.laws.few_letters_are_taken.Goals as goal

pub returns : goal.returns
returns c = record {
  forks = forks_taken_within;
  requests = requests_taken_within;
  dones = λ plan s state i keeps within. dones_taken_within plan s state i (keeps.places i within);
  closes = λ plan s state i keeps within. closes_taken_within plan s state i (keeps.places i within);
  letters = λ plan s state i. takes_few plan s state i;
}
