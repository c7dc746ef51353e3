use Rattle.std.proofs.Common.{◌≡◌, ℕ, ◌+◌, ◌≤◌, ◌++◌, Option, Some, length, map, slice_get, vec_len, vec_capacity, vec_items}
use Rattle.std.specs.Global.{Vec}
use Rattle.std.specs.Vec.Iter.{into_iter_items, into_iter_len}
use Rattle.dine_graph.specs.Plan.{edge_count}
use Rattle.dine_site_thread.specs.declared.port.Port.{Port}
use Rattle.dine_site_thread.specs.declared.site_end.SiteEnd.{SiteEnd}
use Rattle.dine_threads.specs.private.Collecting.{AreForksOf, forks_left, in_slots, out_of}
use Rattle.dine_threads.proofs.collecting.split_ends.Given as goal

abbrev pub invariant-loop-end : goal.invariant-loop-end
invariant-loop-end g l = record {
  empties : into_iter_len l.empty ≡ into_iter_len l.end-iterator;
  fits : (k : ℕ) (end : SiteEnd _ _ _ _ _) (row : Vec (Option (Port _ _ _ _))) → slice_get (into_iter_items l.end-iterator) k ≡ Some end → slice_get (into_iter_items l.empty) k ≡ Some row → length end.ports.items ≤ vec_capacity row;
  no_thing : (k : ℕ) (row : Vec (Option (Port _ _ _ _))) → slice_get (into_iter_items l.empty) k ≡ Some row → vec_len row ≡ 0;
  site_room : vec_len l.sites + into_iter_len l.end-iterator ≤ vec_capacity l.sites;
  row_room : vec_len l.rows + into_iter_len l.end-iterator ≤ vec_capacity l.rows;
  count : vec_len l.slots ≡ edge_count l.plan;
  forks : AreForksOf l.plan (forks_left (into_iter_items l.end-iterator));
  sites : vec_items l.sites ++ map out_of (into_iter_items l.end-iterator) ≡ map out_of (vec_items l.fn.ends);
  rows : map (λ (row : Vec (Option (Port _ _ _ _))). row.items) (vec_items l.rows) ++ map (λ (end : SiteEnd _ _ _ _ _). map Some end.ports.items) (into_iter_items l.end-iterator) ≡ map (λ (end : SiteEnd _ _ _ _ _). map Some end.ports.items) (vec_items l.fn.ends);
  slots : in_slots (forks_left (into_iter_items l.end-iterator)) (vec_items l.slots) ≡ in_slots (forks_left (vec_items l.fn.ends)) (vec_items l.fn.slots);
}
