use Rattle.std.proofs.Common.{◌≡◌, filter, get_or}
use Rattle.std.specs.List.{range_with_len}
use Rattle.dine_graph.specs.Plan.{is_one_of}
use Rattle.dine_graph.proofs.places.list_at.Given as goal

abbrev pub invariant-loop-edge : goal.invariant-loop-edge
invariant-loop-edge l = l.list.items ≡ filter (λ e. is_one_of (get_or l.ends e (0, 0)) l.site) (range_with_len 0 l.edge)
