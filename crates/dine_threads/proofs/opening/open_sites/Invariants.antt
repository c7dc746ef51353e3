use Rattle.std.proofs.Common.{◌≡◌, ℕ, ◌<◌, ◌≤◌, Some, length, slice_get, vec_len, vec_capacity, vec_items}
use Rattle.dine_graph.specs.Plan.{edges_of, site_count}
use Rattle.dine_threads.specs.private.Openings.{HaveNoPort, bells_of}
use Rattle.dine_link.specs.Bells.{new_ringer}
use Rattle.dine_threads.specs.private.Spots.{IsFullRow, row_at, slot_at}
use Rattle.dine_threads.proofs.opening.open_sites.Given as goal

abbrev pub invariant-loop-site : goal.invariant-loop-site
invariant-loop-site g l = record {
  all_ports_len : vec_len l.all_ports ≡ l.site;
  ringers_len : vec_len l.ringers ≡ l.site;
  all_ports_room : site_count l.plan ≤ vec_capacity l.all_ports;
  ringers_room : site_count l.plan ≤ vec_capacity l.ringers;
  bare : HaveNoPort l.plan (vec_items l.all_ports);
  ringers : (s i : ℕ) (bell : _) → slice_get (bells_of (vec_items l.all_ports)) s ≡ Some bell → i < length (edges_of l.plan s) → slot_at (vec_items l.ringers) (record { site = s; at = i }) ≡ Some (new_ringer bell.identity i);
  full : (s : ℕ) → s < l.site → IsFullRow (length (edges_of l.plan s)) (row_at (vec_items l.ringers) s);
}
