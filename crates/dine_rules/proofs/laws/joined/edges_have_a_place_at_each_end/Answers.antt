use Rattle.dine_rules.proofs.shared.links.Across.{across}
use Rattle.dine_rules.proofs.shared.one_place.Placed.{placed}
use Rattle.dine_rules.proofs.shared.two_ends.TwoEnds.{ends_at, ends_of_edge, edge_of_low}
use Rattle.dine_rules.proofs.laws.joined.edges_have_a_place_at_each_end.Goals as goal

pub returns : goal.returns
returns c = record {
  ends = ends_of_edge;
  edge = edge_of_low;
  places = ends_at;
  edges = λ plan s i is_plan within. (placed plan s i is_plan within).edge_within;
  sites = λ plan s i is_plan within. (across plan s i is_plan within).is_site;
}
