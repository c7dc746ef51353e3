-- Each Fork that a site put or took has a lawful log, as a letter offered to the other end must have.
use Rattle.std.proofs.Common.{◌≡◌, ℕ, List, slice_get, Some}
use Rattle.dine_graph.specs.Plan.{SeenPlan}
use Rattle.dine_rules.specs.declared.letters.Letter.{Letter}
use Rattle.dine_rules.specs.declared.letters.Letter.TheVariants.{Fork, Request, Done, Close}
use Rattle.dine_rules.specs.Steps.{Take}
use Rattle.dine_rules.specs.Streams.{AreLawfulForks, IsProper}

-- any letter of such a list may be offered
pub is_proper-of : (plan : SeenPlan) (edge : ℕ) (letters : List Letter) → AreLawfulForks plan edge letters → (k i : ℕ) (l : Letter) → slice_get letters k ≡ Some l → IsProper (Take i l)
is_proper-of plan edge letters forks k i (Fork fork) h = (forks k fork h).1
is_proper-of plan edge letters forks k i (Request e) h = tt
is_proper-of plan edge letters forks k i Done h = tt
is_proper-of plan edge letters forks k i Close h = tt
