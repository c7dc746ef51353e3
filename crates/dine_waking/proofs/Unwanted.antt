-- A state that takes an allowed letter for which it does not wait can do nothing by itself, as before.
use Rattle.std.proofs.Common.{◌≡◌, ◌⊎◌, ℕ, ◌+◌, ◌<◌, ◌==◌, Bool, true, false, List, length, map, Some, None, refl, sym, ◌∙◌, ap, ap₂, subst, inl, inr, arith, if◌then◌else◌}
use Rattle.std.proofs.lemmas.Bool.{eqb-true}
use Rattle.std.proofs.lemmas.Bool.Decides.{nat_tests}
use Rattle.std.proofs.lemmas.List.FromFn.{get_or-map-range_with_len, length-map-range_with_len}
use Rattle.dine_token.specs.Fork.{SeenFork}
use Rattle.dine_token.specs.Log.{meals_of}
use Rattle.dine_graph.specs.Plan.{SeenPlan, IsPlan, acts_of, job_count, edges_of, site_count, lo_of, hi_of, resigns}
use Rattle.dine_rules.specs.declared.letters.Letter.{Letter}
use Rattle.dine_rules.specs.declared.letters.Letter.TheVariants.{Fork, Request, Done, Close}
use Rattle.dine_rules.specs.Breach.{first_breach}
use Rattle.dine_rules.specs.Letters.{kind_of, requests_in}
use Rattle.dine_rules.specs.Local.{LocalState, traffic_at, edge_at, is_eating}
use Rattle.dine_rules.specs.Holdings.{fork_at, token_at}
use Rattle.dine_rules.specs.Steps.{with_taken}
use Rattle.dine_rules.specs.Streams.{KeepsStreams}
use Rattle.dine_rules.specs.Wants.{SeenWants, is_wanted, still_wanted}
use Rattle.dine_rules.proofs.shared.one_place.Placed.{placed}
use Rattle.dine_site.specs.declared.site.places.Place.{Place}
use Rattle.dine_site.specs.declared.site.places.ForkSlot.TheVariants.{Here}
use Rattle.dine_site.specs.Core.{SeenCore, Refines, kept_at}
use Rattle.dine_site.specs.CoreWants.{TakesUnwanted, wants_by_lists, wants_of}
use Rattle.dine_site.specs.NextEvent.{next_event}
use Rattle.dine_site.specs.Places.{after_take}
use Rattle.dine_site.specs.Standing.{all_places}
use Rattle.dine_site.proofs.shared.one_site.Breaches.{breach_is, fork_in_turn, request_in_turn}
use Rattle.dine_site.proofs.shared.one_site.PlacesAfter.{kept-take_fork, kept-take_request}
use Rattle.dine_site.proofs.shared.one_site.Stands.{place_is, stands_at}
use Rattle.dine_site.proofs.shared.own_events.NextEvents.{next_by_lists}
use Rattle.dine_site.proofs.shared.own_events.Unwanted.{unwanted_next, unwanted_wants}
use Rattle.dine_site.proofs.shared.own_events.WantsByLists.{away_by_lists, dirty_by_lists}

-- ---- a core of the state

module _ (plan : SeenPlan) (s : ℕ) (state : LocalState) where
  abbrev pub core_of : SeenCore
  core_of = record {
    site = s;
    due = job_count plan s;
    acts = acts_of plan s;
    resigns = resigns plan s;
    phase = state.phase;
    ate = state.ate;
    must_quit = state.must_quit;
    has_quit = state.has_quit;
    places = map (kept_at plan s state) (all_places state);
  }

  core_stands : IsPlan plan → s < site_count plan → Refines plan state core_of
  core_stands is_plan is_site = record {
    is_plan = is_plan;
    is_site = is_site;
    due = refl;
    acts = refl;
    resigns = refl;
    phase = refl;
    ate = refl;
    must_quit = refl;
    has_quit = refl;
    degree = length-map-range_with_len (kept_at plan s state) 0 (length state.traffic);
    places = λ i past h. get_or-map-range_with_len (kept_at plan s state) 0 (length state.traffic) i i past (omega (arith, h, length-map-range_with_len (kept_at plan s state) 0 (length state.traffic))) (omega arith);
  }

-- what a core waits for is what its state waits for
wants_are : (plan : SeenPlan) (state : LocalState) (core : SeenCore) → KeepsStreams plan core.site state → Refines plan state core → wants_of core ≡ wants_by_lists plan core.site state
wants_are plan state core keeps stands = ap₂ (λ (marks : List Bool) (n : ℕ). record { requests = marks; forks = n }) (dirty_by_lists plan state core keeps stands) (away_by_lists plan state core keeps stands)

-- the token starts at the higher end alone
token_start : (lo hi s : ℕ) → lo < hi → (s ≡ lo) ⊎ (s ≡ hi) → ◌≡◌ {A = ℕ} (if lo == s then 0 else 1) (if hi == s then 1 else 0)
token_start lo hi s ordered end = elim end [ inl same ↦ grind (arith, nat_tests) | inr same ↦ grind (arith, nat_tests) ]

-- ---- the letter is taken

-- what the letter leaves
pub record StaysQuiet (plan : SeenPlan) (s i : ℕ) (state : LocalState) (l : Letter) : Type 0 where
  pub next : next_event plan s (with_taken i l state) ≡ next_event plan s state
  pub wants : wants_by_lists plan s (with_taken i l state) ≡ still_wanted (wants_by_lists plan s state) (kind_of l)

module _ (plan : SeenPlan) (s : ℕ) (state : LocalState) (is_plan : IsPlan plan) (is_site : s < site_count plan) (keeps : KeepsStreams plan s state) (awake : is_eating state.phase ≡ false) (i : ℕ) (within : i < length state.traffic) where
  abbrev core : SeenCore
  core = core_of plan s state

  stands : Refines plan state core
  stands = core_stands plan s state is_plan is_site

  is_place : i < length core.places
  is_place = omega (arith, within, stands.degree)

  of_site : i < length (edges_of plan s)
  of_site = omega (arith, within, keeps.every_place)

  -- the core after the letter represents the state after it
  module _ (e : ℕ) (h : first_breach plan s state i (Request e) ≡ None) where
    stands_asked : Refines plan (with_taken i (Request e) state) (after_take i (Request e) core)
    stands_asked =
        let turn = request_in_turn plan s state i e h in
        let is = place_is plan state core stands i is_place in
        let where_placed = placed plan s i is_plan of_site in
        let end : (s ≡ lo_of plan (edge_at plan s i)) ⊎ (s ≡ hi_of plan (edge_at plan s i)) = elim where_placed.sides [ inl w ↦ inl (sym w.0) | inr w ↦ inr (sym w.0) ] in
        let start = token_start (lo_of plan (edge_at plan s i)) (hi_of plan (edge_at plan s i)) s where_placed.ordered end in
        let counted = (keeps.places i within).tokens_counted ∙ ap (λ (n : ℕ). n + requests_in (traffic_at state i).taken) start in
        subst (λ (f : ℕ). Refines plan (with_taken i (Request f) state) (after_take i (Request f) core)) (sym (eqb-true e (edge_at plan s i) turn.2))
        (stands_at plan state core stands i is_place _ _ (ap (λ (p : Place). record p { token = Some (edge_at plan s i) }) is
        ∙ kept-take_request plan s state.phase state.ate (edge_at plan s i) (traffic_at state i) (eqb-true (token_at plan s state i) 0 turn.1) counted))

  module _ (f : SeenFork) (h : first_breach plan s state i (Fork f) ≡ None) where
    stands_sent : Refines plan (with_taken i (Fork f) state) (after_take i (Fork f) core)
    stands_sent =
        let turn = fork_in_turn plan s state i f h in
        stands_at plan state core stands i is_place _ _ (ap (λ (p : Place). record p { fork = Here f }) (place_is plan state core stands i is_place)
        ∙ kept-take_fork plan s state.phase state.ate (edge_at plan s i) (traffic_at state i) f (eqb-true (fork_at plan s state i) 0 turn.1) (keeps.places i within).forks_counted awake
        turn.2 (eqb-true (meals_of s f.log) state.ate turn.3))

  module _ (l : Letter) (keeps_new : KeepsStreams plan s (with_taken i l state)) (allowed : first_breach plan s state i l ≡ None) (unwanted : is_wanted (wants_by_lists plan s state) i (kind_of l) ≡ false) where
    takes : TakesUnwanted core i l
    takes = record {
      place = is_place;
      in_turn = breach_is plan state core stands keeps i is_place l ∙ allowed;
      unwanted = ap (λ (wants : SeenWants). is_wanted wants i (kind_of l)) (wants_are plan state core keeps stands) ∙ unwanted;
    }

    stays : Refines plan (with_taken i l state) (after_take i l core) → StaysQuiet plan s i state l
    stays after = record {
      next = sym (next_by_lists plan (with_taken i l state) (after_take i l core) keeps_new after) ∙ unwanted_next core i l takes ∙ next_by_lists plan state core keeps stands;
      wants = sym (wants_are plan (with_taken i l state) (after_take i l core) keeps_new after) ∙ unwanted_wants core i l takes ∙ ap (λ (wants : SeenWants). still_wanted wants (kind_of l)) (wants_are plan state core keeps stands);
    }

  pub stays_quiet : (l : Letter) → KeepsStreams plan s (with_taken i l state) → first_breach plan s state i l ≡ None → is_wanted (wants_by_lists plan s state) i (kind_of l) ≡ false → StaysQuiet plan s i state l
  stays_quiet (Request e) keeps_new allowed unwanted = stays (Request e) keeps_new allowed unwanted (stands_asked e allowed)
  stays_quiet (Fork f) keeps_new allowed unwanted = stays (Fork f) keeps_new allowed unwanted (stands_sent f allowed)
  stays_quiet Done keeps_new allowed unwanted = absurd (let e : true ≡ false = unwanted in cc)
  stays_quiet Close keeps_new allowed unwanted = absurd (let e : true ≡ false = unwanted in cc)
