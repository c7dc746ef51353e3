use Rattle.dine_rules.proofs.one_site.PutBounds.{requests_within, forks_within, dones_within, closes_within, puts_few}
use Rattle.dine_rules.proofs.laws.few_letters_are_put.Goals as goal

pub returns : goal.returns
returns c = record {
  requests = requests_within;
  forks = forks_within;
  dones = λ plan s state i keeps within. dones_within plan s state i (keeps.places i within);
  closes = λ plan s state i keeps within. closes_within plan s state i (keeps.places i within);
  letters = λ plan s state i. puts_few plan s state i;
}
