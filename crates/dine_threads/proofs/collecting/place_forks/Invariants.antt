use Rattle.std.proofs.Common.{◌≡◌, ◌<◌, All, vec_len, vec_items}
use Rattle.std.specs.Vec.Iter.{into_iter_items}
use Rattle.dine_token.specs.Fork.{SeenFork}
use Rattle.dine_threads.specs.private.Collecting.{in_slots}
use Rattle.dine_threads.proofs.collecting.place_forks.Given as goal

abbrev pub invariant-loop-fork : goal.invariant-loop-fork
invariant-loop-fork l = record {
  len : vec_len l.slots ≡ vec_len l.fn.slots;
  within : All (λ (fork : SeenFork). fork.edge < vec_len l.fn.slots) (into_iter_items l.fork-iterator);
  left : in_slots (into_iter_items l.fork-iterator) (vec_items l.slots) ≡ in_slots (vec_items l.fn.forks) (vec_items l.fn.slots);
}
