use Rattle.std.proofs.Common.{◌≡◌, ℕ, ◌<◌, get_or, vec_len, Some}
use Rattle.std.specs.List.{slice_get}
use Rattle.dine_graph.specs.Plan.{positions_at}
use Rattle.dine_graph.proofs.places.places_in.Given as goal

abbrev pub invariant-loop-edge : goal.invariant-loop-edge
invariant-loop-edge l = record {
  len : vec_len l.places ≡ l.edge;
  at_low : (e : ℕ) → e < l.edge → slice_get (positions_at l.ends (get_or l.ends e (0, 0)).0) (get_or l.places.items e (0, 0)).0 ≡ Some e;
  at_high : (e : ℕ) → e < l.edge → slice_get (positions_at l.ends (get_or l.ends e (0, 0)).1) (get_or l.places.items e (0, 0)).1 ≡ Some e;
}
