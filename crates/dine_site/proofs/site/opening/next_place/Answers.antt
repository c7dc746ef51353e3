use Rattle.std.proofs.Common.{rules}
use Rattle.dine_site.proofs.site.opening.next_place.Goals as goal

pub resigns-neighbour_resigns-requires : goal.resigns-neighbour_resigns-requires
resigns-neighbour_resigns-requires c = search rules

pub returns-clause-place : goal.returns-clause-place
returns-clause-place c = search rules
