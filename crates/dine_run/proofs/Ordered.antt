-- An order of the journals of a run leads to the forks that were gathered.
use Rattle.std.proofs.Common.{◌≡◌, ◌≢◌, ℕ, ◌+◌, ◌<◌, ◌==◌, List, length, map, get_or, refl, sym, ◌∙◌, ap, inl, inr, arith}
use Rattle.std.specs.List.{range_with_len}
use Rattle.std.proofs.lemmas.Bool.{cases_eq, cond-false, cond-true, eq-eqb, ne_eqb}
use Rattle.std.proofs.lemmas.List.{ext_get_or, length-map}
use Rattle.std.proofs.lemmas.List.FromFn.{get_or-map-range_with_len, length-map-range_with_len, length-range_with_len}
use Rattle.std.proofs.lemmas.Option.{slice_get-get_or}
use Rattle.dine_token.specs.Fork.{SeenFork}
use Rattle.dine_graph.specs.Plan.{SeenPlan, IsPlan, edge_count, edges_of, hi_of, lo_of, site_count}
use Rattle.dine_rules.specs.declared.events.Event.{Event}
use Rattle.dine_rules.specs.declared.events.EventKind.{EventKind}
use Rattle.dine_rules.specs.Holdings.{fork_at, forks_held, hand, hand_at}
use Rattle.dine_rules.specs.Journals.{AreStatesAfter, FailAsShown, IsOrderOf}
use Rattle.dine_rules.specs.JoinedEnds.{AreEndsOfEdge}
use Rattle.dine_rules.specs.Links.{ForEachLink}
use Rattle.dine_rules.specs.Local.{LocalState, Traffic, edge_at, traffic_at}
use Rattle.dine_rules.specs.Precedence.{fork_log}
use Rattle.dine_rules.specs.Steps.{fork_by}
use Rattle.dine_rules.specs.World.{Reaches, WorldState, place_of, state_of}
use Rattle.dine_world.specs.Worlds.{fork_seen, forks_seen}
use Rattle.dine_link.specs.Links.{SeenLink}
use Rattle.dine_threads.specs.Gathered.{high_traffic, low_traffic, traffic_of}
use Rattle.dine_threads.specs.Headline as headline_specs
use Rattle.dine_threads.specs.Headline.{IsHeadline, IsTheFork, ate_of}
use Rattle.dine_rules.proofs.shared.journals.OtherOutcomes.{plan-stays, states-stay}
use Rattle.dine_rules.specs.Shown.{plan_shown, shown_by}
use Rattle.dine_rules.proofs.shared.journals.Shown.{fail_as_shown, sites_shown}
use Rattle.dine_order.proofs.shared.Shown.{fork_shown}
use Rattle.dine_threads.proofs.shared.all_sites.Ordered.{none_must, of_high, of_low, state_is, states_after, traffic_is}
use Rattle.dine_threads.specs.Journals.{AreJournals, states_left}

-- what the laws say of the places of edges, of journals and of logs, as they are called
pub record Known : Type 0 where
  pub ends : (plan : SeenPlan) (edge : ℕ) → IsPlan plan → edge < edge_count plan
      → AreEndsOfEdge plan (lo_of plan edge) (place_of plan (lo_of plan edge) edge) (hi_of plan edge) (place_of plan (hi_of plan edge) edge)
  pub edge : (plan : SeenPlan) (edge : ℕ) → IsPlan plan → edge < edge_count plan → edge_at plan (lo_of plan edge) (place_of plan (lo_of plan edge) edge) ≡ edge
  pub fixed : (plan : SeenPlan) (journals : List (List EventKind)) (states world : WorldState) (events : List Event) → IsPlan plan
      → AreStatesAfter plan journals states → FailAsShown plan journals states → IsOrderOf journals events → Reaches plan events world → world ≡ states
  pub held : ForEachLink (λ plan world s i. fork_at plan s (state_of world s) i ≡ 1 → fork_log plan world (edge_at plan s i) ≡ hand_at s (state_of world s) i)

module _ (known : Known) (plan : SeenPlan) (ates : List ℕ) (links : List SeenLink) (forks : List SeenFork) (is_plan : IsPlan plan) (headline : IsHeadline plan ates links forks) where
  abbrev states : WorldState
  states = states_left plan ates links

  module _ (journals : List (List EventKind)) (are_journals : AreJournals plan ates links journals) (events : List Event) (world : WorldState) (holds : IsOrderOf journals events) (reached : Reaches (plan_shown plan journals) events world) where
    abbrev other : SeenPlan
    other = plan_shown plan journals

    is_plan_too : IsPlan other
    is_plan_too = plan-stays plan (shown_by plan journals) is_plan

    -- the world has the states that the links show
    pub world_is : world ≡ states
    world_is =
        known.fixed other journals states world events is_plan_too (states-stay plan (shown_by plan journals) journals states (states_after plan ates links is_plan forks headline journals are_journals))
        (fail_as_shown plan journals states (none_must plan ates links)) holds reached

    -- the log of the world is that in the hand of the end that holds the fork
    log_is : (s i edge : ℕ) (traffic : Traffic) → s < site_count plan → i < length (edges_of plan s) → edge_at plan s i ≡ edge → traffic_of plan links s edge ≡ traffic → forks_held plan s edge traffic ≡ 1
        → hand s (ate_of plan ates links s) traffic ≡ fork_log other world edge
    log_is s i edge traffic is_site within is same held =
        let here : traffic_at (state_of world s) i ≡ traffic = ap (λ (x : WorldState). traffic_at (state_of x s) i) world_is ∙ traffic_is plan ates links s i is_site within ∙ ap (traffic_of plan links s) is ∙ same in
        let ate : (state_of world s).ate ≡ ate_of plan ates links s = ap (λ (x : WorldState). (state_of x s).ate) world_is ∙ ap (λ (x : LocalState). x.ate) (state_is plan ates links s is_site) in
        let one : fork_at plan s (state_of world s) i ≡ 1 = ap (forks_held plan s (edge_at plan s i)) here ∙ ap (λ (e : ℕ). forks_held plan s e traffic) is ∙ held in
        sym (ap (fork_log other world) (sym is) ∙ known.held other events world s i is_plan_too reached (omega (arith, is_site, sites_shown plan journals)) within one
        ∙ ap (λ (n : ℕ). hand s n (traffic_at (state_of world s) i)) ate ∙ ap (hand s (ate_of plan ates links s)) here)

    log_of : (edge : ℕ) → edge < edge_count plan → forks_held plan (lo_of plan edge) edge (low_traffic links edge) + forks_held plan (hi_of plan edge) edge (high_traffic links edge) ≡ 1
        → headline_specs.log_in_hand plan ates links edge ≡ fork_log other world edge
    log_of edge within one =
        let low : ℕ = lo_of plan edge in
        let high : ℕ = hi_of plan edge in
        let ends = known.ends plan edge is_plan within in
        let ordered = is_plan.ordered edge within in
        let top = is_plan.within edge within in
        let far : low ≢ high = λ same. omega (arith, ordered, same) in
        elim (cases_eq (forks_held plan low edge (low_traffic links edge)) 1) [
          | inl held ↦ cond-true (forks_held plan low edge (low_traffic links edge) == 1) (hand low (ate_of plan ates links low) (low_traffic links edge)) (hand high (ate_of plan ates links high) (high_traffic links edge))
              (eq-eqb _ 1 held)
              ∙ log_is low (place_of plan low edge) edge (low_traffic links edge) (omega (arith, ordered, top)) ends.within (known.edge plan edge is_plan within) (of_low plan links low edge refl) held
          | inr away ↦ cond-false (forks_held plan low edge (low_traffic links edge) == 1) (hand low (ate_of plan ates links low) (low_traffic links edge)) (hand high (ate_of plan ates links high) (high_traffic links edge))
              (ne_eqb _ 1 away)
              ∙ log_is high (place_of plan high edge) edge (high_traffic links edge) top ends.within_there (ends.same_edge ∙ known.edge plan edge is_plan within) (of_high plan links high edge far) (omega (arith, one, away))
        ]

    -- so the forks are these, if each is the fork that the log gives
    forks_are : (seen : ℕ → SeenFork) → ((edge : ℕ) → fork_by plan edge (fork_log other world edge) ≡ seen edge) → forks ≡ map seen (range_with_len 0 (edge_count plan))
    forks_are seen same =
        let count : length forks ≡ edge_count plan = sym (length-map forks (λ (x : SeenFork). x.edge)) ∙ ap length headline.one_fork_an_edge ∙ length-range_with_len 0 (edge_count plan) in
        let past : SeenFork = seen 0 in
        ext_get_or past forks (map seen (range_with_len 0 (edge_count plan))) (count ∙ sym (length-map-range_with_len seen 0 (edge_count plan))) (λ edge below.
        let within : edge < edge_count plan = omega (arith, count, below) in
        let the = headline.each_fork edge (get_or forks edge past) (slice_get-get_or forks edge past below) in
        the.in_hand ∙ ap (fork_by plan edge) (log_of edge within the.one) ∙ same edge ∙ sym (get_or-map-range_with_len seen 0 (edge_count plan) edge edge past within (omega arith)))

    pub forks_of_order : forks ≡ forks_seen other world
    forks_of_order = forks_are (fork_seen other world) (λ edge. fork_shown plan journals edge (fork_log other world edge))

    pub forks_of_plan : forks ≡ forks_seen plan world
    forks_of_plan = forks_are (fork_seen plan world) (λ edge. refl)
