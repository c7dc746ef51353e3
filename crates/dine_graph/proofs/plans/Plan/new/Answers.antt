use Rattle.std.proofs.Common.{◌≡◌, map, length, ap, ◌∙◌, arith}
use Rattle.std.proofs.lemmas.List.{length-map}
use Rattle.dine_graph.specs.Plan.{positions_at}
use Rattle.dine_graph.specs.Site.{seen_site}
use Rattle.dine_graph.proofs.plans.Plan.new.Goals as goal

pub lists_at-requires-clause-few_sites : goal.lists_at-requires-clause-few_sites
lists_at-requires-clause-few_sites c =
    let count : length (map seen_site c.args.sites.items) ≡ length c.args.sites.items = length-map c.args.sites.items seen_site in
    omega (arith, c.requires.few_sites, c.len.ensures)

pub lists_at-requires-clause-few_edges : goal.lists_at-requires-clause-few_edges
lists_at-requires-clause-few_edges c = rw c.as_slice.ensures.value c.requires.few_edges

pub places_in-requires-clause-few_edges : goal.places_in-requires-clause-few_edges
places_in-requires-clause-few_edges c = rw c.as_slice-2.ensures.value c.requires.few_edges

pub places_in-requires-clause-low : goal.places_in-requires-clause-low
places_in-requires-clause-low c =
    let count : length (map seen_site c.args.sites.items) ≡ length c.args.sites.items = length-map c.args.sites.items seen_site in
    rw (c.as_slice-2.ensures.value, c.as_slice-3.ensures.value) (λ e within. omega (arith, c.requires.ordered e within, c.requires.within e within, c.in_ok-edges_of.ensures.len, c.len.ensures))

pub places_in-requires-clause-high : goal.places_in-requires-clause-high
places_in-requires-clause-high c =
    let count : length (map seen_site c.args.sites.items) ≡ length c.args.sites.items = length-map c.args.sites.items seen_site in
    rw (c.as_slice-2.ensures.value, c.as_slice-3.ensures.value) (λ e within. omega (arith, c.requires.within e within, c.in_ok-edges_of.ensures.len, c.len.ensures))

pub places_in-requires-clause-lists : goal.places_in-requires-clause-lists
places_in-requires-clause-lists c =
    rw (c.as_slice-2.ensures.value, c.as_slice-3.ensures.value) (λ s d within. c.in_ok-edges_of.ensures.lists s d (omega (arith, within, c.in_ok-edges_of.ensures.len)) ∙ ap (λ es. positions_at es s) c.as_slice.ensures.value)

pub invariant_of-result : goal.invariant_of-result
invariant_of-result c =
    let count : length (map seen_site c.args.sites.items) ≡ length c.args.sites.items = length-map c.args.sites.items seen_site in
    record {
      plan = c.requires;
      lists = omega (arith, c.in_ok-edges_of.ensures.len, c.len.ensures);
      list_at = λ s v within. c.in_ok-edges_of.ensures.lists s v (omega (arith, within, c.len.ensures)) ∙ ap (λ es. positions_at es s) c.as_slice.ensures.value;
      places = omega (arith, c.in_ok-places.ensures.len, ap length c.as_slice-2.ensures.value);
      place_at_lo = rw c.as_slice-2.ensures.value at c.in_ok-places.ensures.at_low;
      place_at_hi = rw c.as_slice-2.ensures.value at c.in_ok-places.ensures.at_high;
    }
