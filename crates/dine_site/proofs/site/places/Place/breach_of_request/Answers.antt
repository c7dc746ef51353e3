use Rattle.std.proofs.Common.{rules}
use Rattle.dine_site.proofs.site.places.Place.breach_of_request.Goals as goal

pub returns-then-is_out_of_turn : goal.returns-then-is_out_of_turn
returns-then-is_out_of_turn c = search rules

pub returns : goal.returns
returns c = search rules
