use Rattle.std.proofs.Common.{◌≡◌, ℕ, ◌<◌, get_or, vec_len, Vec, Global}
use Rattle.dine_graph.specs.Plan.{positions_at}
use Rattle.dine_graph.proofs.places.lists_at.Given as goal

abbrev pub invariant-loop-site : goal.invariant-loop-site
invariant-loop-site l = record {
  len : vec_len l.lists ≡ l.site;
  lists : (s : ℕ) (d : Vec ℕ Global) → s < l.site → (get_or l.lists.items s d).items ≡ positions_at l.ends s;
}
