-- Where all was taken, the states of all sites stand in the links, the journals lead to them, and there is an order of
-- the journals.
use Rattle.std.proofs.Common.{◌≡◌, ◌≢◌, ℕ, ◌+◌, ◌*◌, ◌<◌, ◌≤◌, ◌==◌, ◌||◌, nat_lt, cond, Bool, true, false, List, length, get_or, refl, sym, ◌∙◌, ap, subst, inl, inr, arith}
use mathlib.Core.List.{IsPrefix}
use Rattle.std.proofs.lemmas.Bool.{cases_eq, cond-false, cond-true, eq-eqb, ne_eqb}
use Rattle.std.proofs.lemmas.List.{get_or-map}
use Rattle.std.proofs.lemmas.List.FromFn.{get_or-map-range_with_len, length-map-range_with_len}
use Rattle.dine_token.specs.Fork.{SeenFork}
use Rattle.dine_graph.specs.Plan.{SeenPlan, IsPlan, edge_count, edges_of, hi_of, job_count, lo_of, site_count}
use Rattle.dine_rules.specs.declared.events.EventKind.{EventKind}
use Rattle.dine_rules.specs.declared.letters.Letter.{Letter}
use Rattle.dine_rules.specs.Journals.{AreStatesAfter, IsJournal, journal_of}
use Rattle.dine_rules.specs.Local.{LocalState, Traffic, edge_at, has_no_job_left, is_thinking, neighbour_at, no_traffic, traffic_at}
use Rattle.dine_rules.specs.Streams.{IsClosedInOrder}
use Rattle.dine_rules.specs.Timed.{AreTimed}
use Rattle.dine_rules.specs.World.{IsComplete, LinksAreOrdered, WorldState, no_state, place_of, put_to, state_of}
use Rattle.dine_rules.proofs.shared.links.Across.{across}
use Rattle.dine_rules.proofs.shared.one_place.Placed.{placed}
use Rattle.dine_rules.proofs.shared.timed.OrdersShown.{order_shown}
use Rattle.dine_link.specs.Links.{SeenLink}
use Rattle.dine_threads.specs.Gathered.{IsClosedWhole, high_traffic, link_from_high, link_from_low, low_traffic, no_link, traffic_of}
use Rattle.dine_threads.specs.Headline.{IsHeadline, ate_of}
use Rattle.dine_threads.specs.Journals.{AreJournals, HaveOrder, state_left, states_left}

-- what an end of an edge put and took: the lower end, and another
pub of_low : (plan : SeenPlan) (links : List SeenLink) (s edge : ℕ) → lo_of plan edge ≡ s → traffic_of plan links s edge ≡ low_traffic links edge
of_low plan links s edge is = cond-true (lo_of plan edge == s) (low_traffic links edge) (high_traffic links edge) (eq-eqb (lo_of plan edge) s is)

pub of_high : (plan : SeenPlan) (links : List SeenLink) (s edge : ℕ) → lo_of plan edge ≢ s → traffic_of plan links s edge ≡ high_traffic links edge
of_high plan links s edge differs = cond-false (lo_of plan edge == s) (low_traffic links edge) (high_traffic links edge) (ne_eqb (lo_of plan edge) s differs)

none_left : (n m : ℕ) → n ≤ m → ((n == m) || nat_lt n m) ≡ true
none_left n m le = by_case (nat_lt n m) refl where
  by_case : (b : Bool) → nat_lt n m ≡ b → ((n == m) || b) ≡ true
  by_case true is = or_true (n == m) where
    or_true : (c : Bool) → (c || true) ≡ true
    or_true true = refl
    or_true false = refl
  by_case false is = let same : n ≡ m = grind (arith, is, le) in ap (λ (c : Bool). c || false) (eq-eqb n m same)

module _ (plan : SeenPlan) (ates : List ℕ) (links : List SeenLink) where
  abbrev states : WorldState
  states = states_left plan ates links

  pub state_is : (s : ℕ) → s < site_count plan → state_of states s ≡ state_left plan ates links s
  state_is s is_site = get_or-map-range_with_len (state_left plan ates links) 0 (site_count plan) s s no_state is_site (omega arith)

  pub none_must : (s : ℕ) → s < site_count plan → (state_of states s).must_quit ≡ false
  none_must s is_site = ap (λ (x : LocalState). x.must_quit) (state_is s is_site)

  -- at a place of a site stands what the end of that edge put and took
  pub traffic_is : (s i : ℕ) → s < site_count plan → i < length (edges_of plan s) → traffic_at (state_of states s) i ≡ traffic_of plan links s (edge_at plan s i)
  traffic_is s i is_site within = ap (λ (x : LocalState). traffic_at x i) (state_is s is_site) ∙ get_or-map (traffic_of plan links s) (edges_of plan s) i 0 no_traffic within

  module _ (is_plan : IsPlan plan) where
    is_edge : (s i : ℕ) → i < length (edges_of plan s) → edge_at plan s i < edge_count plan
    is_edge s i within = (placed plan s i is_plan within).edge_within

    -- what holds of what was taken and what was put, for both links of each edge, holds at each place of a site
    each_place : (P : List Letter → List Letter → Type 0) → ((edge : ℕ) → edge < edge_count plan → P (link_from_high links edge).taken (link_from_high links edge).put)
        → ((edge : ℕ) → edge < edge_count plan → P (link_from_low links edge).taken (link_from_low links edge).put)
        → (s i : ℕ) → s < site_count plan → i < length (edges_of plan s) → P (traffic_at (state_of states s) i).taken (put_to plan states s i)
    each_place P to_low to_high s i is_site within =
        let over = across plan s i is_plan within in
        let edge : ℕ = edge_at plan s i in
        let inside : edge < edge_count plan = is_edge s i within in
        let other : ℕ = neighbour_at plan s i in
        let mine : traffic_at (state_of states s) i ≡ traffic_of plan links s edge = traffic_is s i is_site within in
        let theirs : traffic_at (state_of states other) (place_of plan other edge) ≡ traffic_of plan links other edge = traffic_is other (place_of plan other edge) over.is_site over.within ∙ ap (traffic_of plan links other) over.same_edge in
        subst (λ (x : Traffic). P x.taken (put_to plan states s i)) (sym mine) (subst (λ (x : Traffic). P (traffic_of plan links s edge).taken x.put) (sym theirs)
        (elim (cases_eq (lo_of plan edge) s) [
          | inl lower ↦
              let there : other ≡ hi_of plan edge = cond-true (lo_of plan edge == s) (hi_of plan edge) (lo_of plan edge) (eq-eqb (lo_of plan edge) s lower) in
              let far : lo_of plan edge ≢ other = λ same. omega (arith, is_plan.ordered edge inside, there, same) in
              subst (λ (x : Traffic). P x.taken (traffic_of plan links other edge).put) (sym (of_low plan links s edge lower))
              (subst (λ (x : Traffic). P (low_traffic links edge).taken x.put) (sym (of_high plan links other edge far)) (to_low edge inside))
          | inr higher ↦
              let there : other ≡ lo_of plan edge = cond-false (lo_of plan edge == s) (hi_of plan edge) (lo_of plan edge) (ne_eqb (lo_of plan edge) s higher) in
              subst (λ (x : Traffic). P x.taken (traffic_of plan links other edge).put) (sym (of_high plan links s edge higher))
              (subst (λ (x : Traffic). P (high_traffic links edge).taken x.put) (sym (of_low plan links other edge (sym there))) (to_high edge inside))
        ]))

    module _ (forks : List SeenFork) (headline : IsHeadline plan ates links forks) where
      -- what was taken from the link that leads to an end is a prefix of what the other end put
      prefix_low : (edge : ℕ) → edge < edge_count plan → IsPrefix (link_from_high links edge).taken (link_from_high links edge).put
      prefix_low edge within = (headline.joined.in_order (2 * edge + 1) no_link (let n = headline.joined.by_edge.count in omega arith)).prefix

      prefix_high : (edge : ℕ) → edge < edge_count plan → IsPrefix (link_from_low links edge).taken (link_from_low links edge).put
      prefix_high edge within = (headline.joined.in_order (2 * edge) no_link (let n = headline.joined.by_edge.count in omega arith)).prefix

      linked : LinksAreOrdered plan states
      linked = each_place IsPrefix prefix_low prefix_high

      module _ (journals : List (List EventKind)) (are_journals : AreJournals plan ates links journals) where
        -- the journals led the sites to these states
        pub states_after : AreStatesAfter plan journals states
        states_after = record {
          sites = length-map-range_with_len (state_left plan ates links) 0 (site_count plan);
          each = λ s is_site. subst (IsJournal plan s (journal_of journals s)) (sym (state_is s is_site)) (are_journals s is_site);
          links = linked;
        }

        module _ (few : (s : ℕ) → s < site_count plan → ate_of plan ates links s ≤ job_count plan s) where
          closed : (n : ℕ) → n < length links → IsClosedWhole (get_or links n no_link)
          closed n within = headline.all_taken n no_link within

          all_taken : (s i : ℕ) → s < site_count plan → i < length (edges_of plan s) → (traffic_at (state_of states s) i).taken ≡ put_to plan states s i
          all_taken = each_place (λ taken put. taken ≡ put) (λ edge within. (closed (2 * edge + 1) (let n = headline.joined.by_edge.count in omega arith)).taken)
              (λ edge within. (closed (2 * edge) (let n = headline.joined.by_edge.count in omega arith)).taken)

          all_closed : (s i : ℕ) → s < site_count plan → i < length (edges_of plan s) → IsClosedInOrder (traffic_at (state_of states s) i).put
          all_closed s i is_site within = subst (λ (x : Traffic). IsClosedInOrder x.put) (sym (traffic_is s i is_site within)) (by_case (lo_of plan (edge_at plan s i) == s)) where
            by_case : (b : Bool) → IsClosedInOrder (cond b (low_traffic links (edge_at plan s i)) (high_traffic links (edge_at plan s i))).put
            by_case true = (closed (2 * edge_at plan s i) (let n = headline.joined.by_edge.count in let e = is_edge s i within in omega arith)).in_order
            by_case false = (closed (2 * edge_at plan s i + 1) (let n = headline.joined.by_edge.count in let e = is_edge s i within in omega arith)).in_order

          complete : IsComplete plan states
          complete = record {
            all_think = λ s is_site. ap (λ (x : LocalState). is_thinking x.phase) (state_is s is_site);
            all_ate = λ s is_site. ap (has_no_job_left plan s) (state_is s is_site) ∙ none_left (ate_of plan ates links s) (job_count plan s) (few s is_site);
            all_closed = all_closed;
            all_taken = all_taken;
          }

          pub order_of_run : length journals ≡ site_count plan → AreTimed plan journals → HaveOrder plan journals
          order_of_run count times = let order = order_shown plan journals states is_plan states_after none_must complete times in record { is_plan = is_plan; count = count; events = order.0; is_order = order.1 }
