-- The events of all journals have moments that fit, where no site tells a fault.
use Rattle.std.proofs.Common.{◌≡◌, ℕ, zero, suc, ◌<◌, List, [], ◌∷◌, ◌++◌, All, length, map, get_or, slice_get, Option, Some, None, option_map, unwrap_or, sym, ◌∙◌, ap, subst, inl, inr, arith}
use Rattle.std.proofs.lemmas.List.{append-nil, length-map}
use Rattle.std.proofs.lemmas.Option.{slice_get-map, unwrap_or-slice_get}
use Rattle.dine_graph.specs.Plan.{SeenPlan, edges_of, site_count}
use Rattle.dine_rules.specs.declared.events.EventKind.{EventKind}
use Rattle.dine_rules.specs.Local.{edge_at, neighbour_at}
use Rattle.dine_rules.specs.World.{place_of}
use Rattle.dine_rules.proofs.shared.links.Across.{across}
use Rattle.dine_link.specs.Links.{SeenLink}
use Rattle.dine_site_thread.specs.declared.manner.Manner.{Manner}
use Rattle.dine_site_thread.specs.declared.site_end.SiteEnd.{SiteEnd}
use Rattle.dine_site_thread.specs.Ports.{seen_ports}
use Rattle.dine_rules.specs.Timed.{AreTimed, Rise, is_put_at, is_take_at, moments_of}
use Rattle.dine_site_thread.specs.Times.{AreLater, IsTimed, none_late}
use Rattle.dine_threads.specs.declared.gathered.SiteOut.{SiteOut}
use Rattle.dine_threads.specs.declared.starts.SiteStart.{SiteStart}
use Rattle.dine_threads.specs.private.Collecting.{AreLinksLeft, out_of, rows_left}
use Rattle.dine_threads.specs.private.Wirings.{AreWired}
use Rattle.dine_threads.specs.Gathered.{IsTakenInOrder}
use Rattle.dine_threads.proofs.all_sites.Gatherings.{AreAllLeft, end_of, ends_count, left_at, row_of}
use Rattle.dine_threads.proofs.all_sites.Brokens.{ports_at, stands_at, there_or_none}
use Rattle.dine_link.specs.declared.lane.Lane.{Ghosts}
use Rattle.dine_site_thread.specs.declared.diner.Diner as diners

later_than_more : (later xs ys : List ℕ) → length later ≡ length xs → AreLater later xs → AreLater later (xs ++ ys)
later_than_more [] xs ys many h n put taken p t = absurd cc
later_than_more (x ∷ later) [] ys many h n put taken p t = absurd (omega arith)
later_than_more (x ∷ later) (y ∷ xs) ys many h zero put taken p t = h zero put taken p t
later_than_more (x ∷ later) (y ∷ xs) ys many h (suc n) put taken p t = later_than_more later xs ys (omega arith) (λ k. h (suc k)) n put taken p t

module _ {Lane Tx Closed Rx D : Type 0} {lane : Ghosts Lane Tx Closed Rx}
    {eater : diners.Ghosts D} {manner : Manner} {plan : SeenPlan}
    {starts : List (SiteStart Lane D Tx Closed Rx)} {ends : List (SiteEnd Lane D Tx Closed Rx)} (all : AreAllLeft lane eater manner plan starts ends)
    (links : List SeenLink) (are_left : AreLinksLeft plan (rows_left lane ends) links) (are_wired : AreWired plan (rows_left lane ends)) (in_order : All IsTakenInOrder links) where
  -- So the events of all journals have moments that fit, where no site tells a fault.
  module _ (no_fault : (s : ℕ) (end : SiteEnd Lane D Tx Closed Rx) → slice_get ends s ≡ Some end → end.fault ≡ None) where
    clocks : List (List (EventKind × ℕ))
    clocks = map (λ (end : SiteEnd Lane D Tx Closed Rx). end.clock.events) ends

    clock_at : (s : ℕ) (end : SiteEnd Lane D Tx Closed Rx) → slice_get ends s ≡ Some end → get_or clocks s [] ≡ end.clock.events
    unfolding clocks
    clock_at s end at = row_of (λ (e : SiteEnd Lane D Tx Closed Rx). e.clock.events) ends s end at

    timed_at_site : (s : ℕ) (end : SiteEnd Lane D Tx Closed Rx) → slice_get ends s ≡ Some end → IsTimed none_late end.clock.events end.journal.items (seen_ports lane end.ports.items)
    timed_at_site s end at = (left_at all s end at).timed (no_fault s end at)

    later_at : (s i n put taken : ℕ) → s < site_count plan → i < length (edges_of plan s)
        → slice_get (moments_of (is_put_at (place_of plan (neighbour_at plan s i) (edge_at plan s i))) (get_or clocks (neighbour_at plan s i) [])) n ≡ Some put
        → slice_get (moments_of (is_take_at i) (get_or clocks s [])) n ≡ Some taken → put < taken
    later_at s i n put taken is_site within was is =
        let ports = ports_at all links are_left are_wired in_order s i within in
        let over = across plan s i all.is_plan within in
        let near = end_of all s is_site in
        let far = end_of all (neighbour_at plan s i) over.is_site in
        let mine = timed_at_site s near.0 near.1 in
        let theirs = timed_at_site (neighbour_at plan s i) far.0 far.1 in
        let here = stands_at all links are_left are_wired in_order (record { site = s; at = i }) ports.near near.0 near.1 ports.at_near in
        let there = stands_at all links are_left are_wired in_order (record { site = neighbour_at plan s i; at = place_of plan (neighbour_at plan s i) (edge_at plan s i) }) ports.far far.0 far.1 ports.at_far in
        let puts = ap (moments_of (is_put_at (place_of plan (neighbour_at plan s i) (edge_at plan s i)))) (clock_at (neighbour_at plan s i) far.0 far.1) ∙ theirs.puts (place_of plan (neighbour_at plan s i) (edge_at plan s i)) ports.far there ∙ append-nil ports.far.tx.moments in
        let takes = ap (moments_of (is_take_at i)) (clock_at s near.0 near.1) in
        later_than_more (moments_of (is_take_at i) near.0.clock.events) ports.near.rx.moments ports.comes.moments.0 (mine.many i ports.near here) (mine.takes i ports.near here) n put taken
        (ap (λ (z : List ℕ). slice_get z n) (ports.comes.moments.1 ∙ sym puts) ∙ was) (ap (λ (z : List ℕ). slice_get z n) (sym takes) ∙ is)

    clock_past : (s : ℕ) → slice_get ends s ≡ None → get_or clocks s [] ≡ []
    unfolding clocks
    clock_past s none = sym (unwrap_or-slice_get clocks s []) ∙ ap (λ (o : Option (List (EventKind × ℕ))). unwrap_or o []) (slice_get-map (λ (e : SiteEnd Lane D Tx Closed Rx). e.clock.events) ends s ∙ ap (option_map (λ (e : SiteEnd Lane D Tx Closed Rx). e.clock.events)) none)

    journals : List (List EventKind)
    journals = map (λ (out : SiteOut D). out.journal.items) (map out_of ends)

    journal_at : (s : ℕ) → slice_get journals s ≡ option_map (λ (out : SiteOut D). out.journal.items) (option_map out_of (slice_get ends s))
    unfolding journals
    journal_at s = slice_get-map (λ (out : SiteOut D). out.journal.items) (map out_of ends) s ∙ ap (option_map (λ (out : SiteOut D). out.journal.items)) (slice_get-map out_of ends s)

    journal_is : (s : ℕ) (o : Option (SiteEnd Lane D Tx Closed Rx)) → slice_get ends s ≡ o → get_or journals s [] ≡ unwrap_or (option_map (λ (out : SiteOut D). out.journal.items) (option_map out_of o)) []
    journal_is s o is = sym (unwrap_or-slice_get journals s []) ∙ ap (λ (p : Option (List EventKind)). unwrap_or p []) (journal_at s ∙ ap (λ (p : Option (SiteEnd Lane D Tx Closed Rx)). option_map (λ (out : SiteOut D). out.journal.items) (option_map out_of p)) is)

    pub all_timed : AreTimed plan (map (λ (out : SiteOut D). out.journal.items) (map out_of ends))
    unfolding clocks journals
    all_timed = record {
      timed = clocks;
      sites = length-map ends (λ (end : SiteEnd Lane D Tx Closed Rx). end.clock.events) ∙ ends_count all;
      shown = λ s. elim (there_or_none (slice_get ends s)) [
        | inl none ↦ ap (map (λ (event : EventKind × ℕ). event.0)) (clock_past s none) ∙ sym (journal_is s None none)
        | inr some ↦ ap (map (λ (event : EventKind × ℕ). event.0)) (clock_at s some.0 some.1) ∙ (timed_at_site s some.0 some.1).shown ∙ sym (journal_is s (Some some.0) some.1)
      ];
      rise = λ s. elim (there_or_none (slice_get ends s)) [
        | inl none ↦ subst (Rise 0) (sym (clock_past s none)) tt
        | inr some ↦ subst (Rise 0) (sym (clock_at s some.0 some.1)) (timed_at_site s some.0 some.1).rise
      ];
      later = later_at;
    }
