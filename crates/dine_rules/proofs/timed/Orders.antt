-- Timed journals have an order.
use Rattle.std.proofs.Common.{◌≡◌, ℕ, zero, suc, ◌+◌, ◌<◌, ◌≤◌, ◌==◌, nat_lt, Bool, true, false, cond, List, [], ◌∷◌, ◌++◌, map, get_or, length, slice_set, slice_get, Option, Some, None, refl, sym, ◌∙◌, ap, subst, arith, length-append, append_assoc}
use Rattle.std.specs.Option.{option_and_then, option_map}
use Rattle.std.proofs.lemmas.Bool.{and_parts, cond-true, eq-eqb, ltb-true, lt-ltb}
use Rattle.std.proofs.lemmas.List.{length-map}
use Rattle.std.proofs.lemmas.Option.{same_Some, slice_get-get_or}
use Rattle.dine_graph.specs.Plan.{SeenPlan, IsPlan, edges_of, job_count, job_of, site_count}
use Rattle.dine_rules.specs.declared.events.Event.{Event}
use Rattle.dine_rules.specs.declared.events.EventKind.{EventKind}
use Rattle.dine_rules.specs.declared.events.EventKind.TheVariants as event
use Rattle.dine_rules.specs.declared.letters.Letter.{Letter}
use Rattle.dine_rules.specs.Local.{LocalState, Traffic, edge_at, is_eating, meal_fails, neighbour_at, no_traffic, start_of, traffic_at}
use Rattle.dine_rules.specs.declared.events.Shape.{Shape}
use Rattle.dine_rules.specs.Steps.{Step, End, Take, after, may, shape_of, step_by}
use Rattle.dine_rules.specs.World.{WorldState, IsComplete, after_events, local_after, next_letter, place_of, put_to, start, state_of, step_of, world_after}
use Rattle.dine_rules.specs.Journals.{AreStatesAfter, FailAsShown, IsOrderOf, IsWholeOrder, fails_before, journal_of, next_of_these, outcomes_in, part_of, state_after, state_after_all}
use Rattle.dine_rules.proofs.shared.links.Across.{IsAcross, across}
use Rattle.dine_rules.proofs.shared.links.WorldStreams.{WorldKeeps, event_keeps, prefix_short, start_kept, start_state}
use Rattle.dine_rules.proofs.shared.one_site.Site.{no_traffic_yet}
use Rattle.dine_rules.proofs.shared.lists.Options.{and_then_parts, option_map_parts}
use Rattle.dine_rules.proofs.journals.Parts.{part-same}
use Rattle.dine_rules.proofs.shared.journals.JournalStates.{AgreesEach, LeadsEach, FailsSo, ended, journals_fix, leads_on, own_step, same_letter, shows_on, taken_in}
use Rattle.dine_rules.specs.Timed.{AreTimed, is_put_at, is_take_at, moments_of, timed_at}
use Rattle.dine_rules.proofs.timed.Merging.{AtLeast, Sorted, TimedEvent, events_in, merge, merge_own, merge_sorted, own, own_append, own_part, own_same}
use Rattle.dine_rules.proofs.timed.Counts.{count, moments_append, moments_count, puts_counted, takes_counted}

-- an event that is a step of the world is accepted
steps_on : (plan : SeenPlan) (world : WorldState) (e : Event) (step : Step) → e.site < site_count plan → step_of plan world e.site e.kind ≡ Some step → may plan e.site (state_of world e.site) step ≡ true
    → (next : WorldState) × (world_after plan world e ≡ Some next)
steps_on plan world e step is_site is needs = (
  slice_set world e.site (after plan e.site (state_of world e.site) step),
  cond-true (nat_lt e.site (site_count plan)) (option_map (slice_set world e.site) (option_and_then (local_after plan e.site (state_of world e.site)) (step_of plan world e.site e.kind))) None (lt-ltb e.site (site_count plan) is_site)
      ∙ ap (λ (o : Option Step). option_map (slice_set world e.site) (option_and_then (local_after plan e.site (state_of world e.site)) o)) is
      ∙ ap (option_map (slice_set world e.site)) (cond-true (may plan e.site (state_of world e.site) step) (Some (after plan e.site (state_of world e.site) step)) None needs),
)

-- ---- lists of moments

abbrev NoneBefore : ℕ → List ℕ → Type 0
NoneBefore m [] = Unit {0}
NoneBefore m (n ∷ ns) = (m ≤ n) × NoneBefore m ns

none_before : (m s : ℕ) (test : Shape → Bool) (xs : List TimedEvent) → AtLeast m xs → NoneBefore m (moments_of test (own s xs))
none_before m s test [] h = tt
none_before m s test (x ∷ xs) h = by_site (none_before m s test xs h.1) (x.0.site == s) where
  by_test : NoneBefore m (moments_of test (own s xs)) → (b : Bool) → NoneBefore m (cond b (x.1 ∷ moments_of test (own s xs)) (moments_of test (own s xs)))
  by_test rest true = (h.0, rest)
  by_test rest false = rest

  by_site : NoneBefore m (moments_of test (own s xs)) → (b : Bool) → NoneBefore m (moments_of test (cond b ((x.0.kind, x.1) ∷ own s xs) (own s xs)))
  by_site rest true = by_test rest (test (shape_of x.0.kind))
  by_site rest false = rest

-- what stands behind the first list
behind : (m k : ℕ) (xs ys : List ℕ) → NoneBefore m ys → length xs ≤ k → k < length xs + length ys → (q : ℕ) × (slice_get (xs ++ ys) k ≡ Some q) × (m ≤ q)
behind m k [] [] h over under = absurd (omega arith)
behind m zero [] (y ∷ ys) h over under = (y, refl, h.0)
behind m (suc k) [] (y ∷ ys) h over under = behind m k [] ys h.1 (omega arith) (omega arith)
behind m zero (x ∷ xs) ys h over under = absurd (omega arith)
behind m (suc k) (x ∷ xs) ys h over under = behind m k xs ys h (omega arith) (omega arith)

next_there : (m : ℕ) (xs ys : List ℕ) → slice_get (xs ++ m ∷ ys) (length xs) ≡ Some m
next_there m [] ys = refl
next_there m (x ∷ xs) ys = next_there m xs ys

past_end : (js : List (List (EventKind × ℕ))) (s : ℕ) → length js ≤ s → get_or js s [] ≡ []
past_end [] s h = refl
past_end (j ∷ js) zero h = absurd (omega arith)
past_end (j ∷ js) (suc s) h = past_end js s (omega arith)

module _ (plan : SeenPlan) (is_plan : IsPlan plan) (journals : List (List EventKind)) (states : WorldState) (done : AreStatesAfter plan journals states) (times : AreTimed plan journals) where
  all : List TimedEvent
  all = merge 0 times.timed

  all_own : (s : ℕ) → own s all ≡ timed_at times.timed s
  unfolding all
  all_own s = merge_own times.timed times.rise s

  -- the list holds the journals
  all_parts : IsOrderOf journals (events_in all)
  all_parts s = own_part s all ∙ ap (map (λ event. event.0)) (all_own s) ∙ times.shown s

  module _ (placed : List TimedEvent) (x : TimedEvent) (rest : List TimedEvent) (split : all ≡ placed ++ x ∷ rest) where
    parted : (s : ℕ) → timed_at times.timed s ≡ own s placed ++ own s (x ∷ rest)
    parted s = sym (all_own s) ∙ ap (own s) split ∙ own_append s placed (x ∷ rest)

    moments_parted : (s : ℕ) (test : Shape → Bool) → moments_of test (timed_at times.timed s) ≡ moments_of test (own s placed) ++ moments_of test (own s (x ∷ rest))
    moments_parted s test = ap (moments_of test) (parted s) ∙ moments_append test (own s placed) (own s (x ∷ rest))

    -- the event is one of a site
    is_site : x.0.site < site_count plan
    is_site = by_case (nat_lt x.0.site (site_count plan)) refl where
      by_case : (b : Bool) → nat_lt x.0.site (site_count plan) ≡ b → x.0.site < site_count plan
      by_case true is = ltb-true x.0.site (site_count plan) is
      by_case false is =
          let many = times.sites in
          let over : site_count plan ≤ x.0.site = grind (arith, is) in
          let none : own x.0.site placed ++ own x.0.site (x ∷ rest) ≡ [] = sym (parted x.0.site) ∙ past_end times.timed x.0.site (omega arith) in
          let one : length (own x.0.site (x ∷ rest)) ≡ suc (length (own x.0.site rest)) = ap length (own_same x.0.site x rest refl) in
          absurd (omega (arith, ap length none, length-append (own x.0.site placed) (own x.0.site (x ∷ rest)), one))

    -- how many letters are put and taken at a place before and after it
    module _ (world : WorldState) (kept : WorldKeeps plan world) (leads : LeadsEach plan is_plan states done.links world (events_in (x ∷ rest))) (s : ℕ) (here : s < site_count plan) (i : ℕ) (within : i < length (edges_of plan s)) where
      counted_rest : (test : Shape → Bool) → length (moments_of test (own s (x ∷ rest))) ≡ count test (part_of s (events_in (x ∷ rest)))
      counted_rest test = moments_count test (own s (x ∷ rest)) ∙ ap (count test) (sym (own_part s (x ∷ rest)))

      counted_all : (test : Shape → Bool) → length (moments_of test (timed_at times.timed s)) ≡ count test (journal_of journals s)
      counted_all test = moments_count test (timed_at times.timed s) ∙ ap (count test) (times.shown s)

      counted_both : (test : Shape → Bool) → length (moments_of test (timed_at times.timed s)) ≡ length (moments_of test (own s placed)) + length (moments_of test (own s (x ∷ rest)))
      counted_both test = ap length (moments_parted s test) ∙ length-append (moments_of test (own s placed)) (moments_of test (own s (x ∷ rest)))

      at_place : i < length (state_of world s).traffic
      at_place = let e = (kept.keeps s here).every_place in omega arith

      at_start : i < length (start_of plan s).traffic
      at_start = let e = length-map (edges_of plan s) (λ edge. no_traffic) in omega arith

      puts_before : length (moments_of (is_put_at i) (own s placed)) ≡ length (traffic_at (state_of world s) i).put
      puts_before =
          let from_here = puts_counted plan s (taken_in states s) (state_of states s).must_quit i (part_of s (events_in (x ∷ rest))) (state_of world s) (state_of states s) at_place (leads s here) in
          let from_start = puts_counted plan s (taken_in states s) (state_of states s).must_quit i (journal_of journals s) (start_of plan s) (state_of states s) at_start (done.each s here) in
          let none : length (traffic_at (start_of plan s) i).put ≡ 0 = ap (λ (t : Traffic). length t.put) (no_traffic_yet (edges_of plan s) i) in
          omega (arith, from_here, from_start, none, counted_rest (is_put_at i), counted_all (is_put_at i), counted_both (is_put_at i))

      takes_before : length (moments_of (is_take_at i) (own s placed)) ≡ length (traffic_at (state_of world s) i).taken
      takes_before =
          let from_here = takes_counted plan s (taken_in states s) (state_of states s).must_quit i (part_of s (events_in (x ∷ rest))) (state_of world s) (state_of states s) at_place (leads s here) in
          let from_start = takes_counted plan s (taken_in states s) (state_of states s).must_quit i (journal_of journals s) (start_of plan s) (state_of states s) at_start (done.each s here) in
          let none : length (traffic_at (start_of plan s) i).taken ≡ 0 = ap (λ (t : Traffic). length t.taken) (no_traffic_yet (edges_of plan s) i) in
          omega (arith, from_here, from_start, none, counted_rest (is_take_at i), counted_all (is_take_at i), counted_both (is_take_at i))

      puts_in_all : length (traffic_at (state_of states s) i).put ≡ length (moments_of (is_put_at i) (own s placed)) + length (moments_of (is_put_at i) (own s (x ∷ rest)))
      puts_in_all =
          let from_here = puts_counted plan s (taken_in states s) (state_of states s).must_quit i (part_of s (events_in (x ∷ rest))) (state_of world s) (state_of states s) at_place (leads s here) in
          omega (arith, from_here, puts_before, counted_rest (is_put_at i))

      takes_in_all : length (traffic_at (state_of states s) i).taken ≡ length (moments_of (is_take_at i) (own s placed)) + length (moments_of (is_take_at i) (own s (x ∷ rest)))
      takes_in_all =
          let from_here = takes_counted plan s (taken_in states s) (state_of states s).must_quit i (part_of s (events_in (x ∷ rest))) (state_of world s) (state_of states s) at_place (leads s here) in
          omega (arith, from_here, takes_before, counted_rest (is_take_at i))

    -- Where the event is a Take, and no event behind it has a lower moment, a letter lies in the link.
    module _ (world : WorldState) (kept : WorldKeeps plan world) (leads : LeadsEach plan is_plan states done.links world (events_in (x ∷ rest))) (least : AtLeast x.1 rest) (i : ℕ) (within : i < length (edges_of plan x.0.site)) (is_take : x.0.kind ≡ event.Take i) where
      over : IsAcross plan x.0.site i (neighbour_at plan x.0.site i) (place_of plan (neighbour_at plan x.0.site i) (edge_at plan x.0.site i))
      over = across plan x.0.site i is_plan within

      -- its moment is that of the letter that is taken next
      own_moment : moments_of (is_take_at i) (own x.0.site (x ∷ rest)) ≡ x.1 ∷ moments_of (is_take_at i) (own x.0.site rest)
      own_moment = ap (moments_of (is_take_at i)) (own_same x.0.site x rest refl)
          ∙ cond-true (is_take_at i (shape_of x.0.kind)) (x.1 ∷ moments_of (is_take_at i) (own x.0.site rest)) (moments_of (is_take_at i) (own x.0.site rest)) (ap (λ (kind : EventKind). is_take_at i (shape_of kind)) is_take ∙ eq-eqb i i refl)

      taken_then : slice_get (moments_of (is_take_at i) (timed_at times.timed x.0.site)) (length (traffic_at (state_of world x.0.site) i).taken) ≡ Some x.1
      taken_then = ap (λ (z : List ℕ). slice_get z (length (traffic_at (state_of world x.0.site) i).taken)) (moments_parted x.0.site (is_take_at i) ∙ ap (λ (z : List ℕ). moments_of (is_take_at i) (own x.0.site placed) ++ z) own_moment)
          ∙ ap (slice_get (moments_of (is_take_at i) (own x.0.site placed) ++ x.1 ∷ moments_of (is_take_at i) (own x.0.site rest))) (sym (takes_before world kept leads x.0.site is_site i within))
          ∙ next_there x.1 (moments_of (is_take_at i) (own x.0.site placed)) (moments_of (is_take_at i) (own x.0.site rest))

      in_time : length (traffic_at (state_of world x.0.site) i).taken < length (put_to plan world x.0.site i)
      in_time = by_case (nat_lt (length (traffic_at (state_of world x.0.site) i).taken) (length (put_to plan world x.0.site i))) refl where
        by_case : (b : Bool) → nat_lt (length (traffic_at (state_of world x.0.site) i).taken) (length (put_to plan world x.0.site i)) ≡ b → length (traffic_at (state_of world x.0.site) i).taken < length (put_to plan world x.0.site i)
        by_case true is = ltb-true (length (traffic_at (state_of world x.0.site) i).taken) (length (put_to plan world x.0.site i)) is
        by_case false is =
            let test : Shape → Bool = is_put_at (place_of plan (neighbour_at plan x.0.site i) (edge_at plan x.0.site i)) in
            let other : ℕ = neighbour_at plan x.0.site i in
            let place : ℕ = place_of plan (neighbour_at plan x.0.site i) (edge_at plan x.0.site i) in
            let late : length (put_to plan world x.0.site i) ≤ length (traffic_at (state_of world x.0.site) i).taken = grind (arith, is) in
            let put_before = puts_before world kept leads other over.is_site place over.within in
            let put_all = puts_in_all world kept leads other over.is_site place over.within in
            let taken_before = takes_before world kept leads x.0.site is_site i within in
            let taken_all = takes_in_all world kept leads x.0.site is_site i within in
            let one = ap length own_moment in
            let few : length (traffic_at (state_of states x.0.site) i).taken ≤ length (put_to plan states x.0.site i) = prefix_short (traffic_at (state_of states x.0.site) i).taken (put_to plan states x.0.site i) (done.links x.0.site i is_site within) in
            let w = behind x.1 (length (traffic_at (state_of world x.0.site) i).taken) (moments_of test (own other placed)) (moments_of test (own other (x ∷ rest)))
            (none_before x.1 other test (x ∷ rest) (omega arith, least)) (omega (arith, late, put_before)) (omega (arith, put_all, taken_before, taken_all, one, few)) in
            let sooner : w.0 < x.1 = times.later x.0.site i (length (traffic_at (state_of world x.0.site) i).taken) w.0 x.1 is_site within
            (ap (λ (z : List ℕ). slice_get z (length (traffic_at (state_of world x.0.site) i).taken)) (moments_parted other test) ∙ w.1) taken_then in
            absurd (omega (arith, sooner, w.2))

    -- So its site's own step is a step of the world.
    module _ (world : WorldState) (kept : WorldKeeps plan world) (leads : LeadsEach plan is_plan states done.links world (events_in (x ∷ rest))) (least : AtLeast x.1 rest) where
      world_step : (failed : Bool) (kind : EventKind) (step : Step) → x.0.kind ≡ kind → step_by failed (next_of_these (taken_in states x.0.site) (state_of world x.0.site)) kind ≡ Some step → may plan x.0.site (state_of world x.0.site) step ≡ true
          → (one : Step) × (step_of plan world x.0.site kind ≡ Some one) × (may plan x.0.site (state_of world x.0.site) one ≡ true)
      world_step failed (event.Take i) step of_kind is needs =
          let w = option_map_parts (Take i) (next_of_these (taken_in states x.0.site) (state_of world x.0.site) i) step is in
          let may_take : may plan x.0.site (state_of world x.0.site) (Take i w.0) ≡ true = subst (λ (z : Step). may plan x.0.site (state_of world x.0.site) z ≡ true) (sym w.2) needs in
          let at_place : i < length (state_of world x.0.site).traffic = ltb-true _ _ (and_parts _ _ may_take).0 in
          let within : i < length (edges_of plan x.0.site) = let e = (kept.keeps x.0.site is_site).every_place in omega arith in
          let there : length (traffic_at (state_of world x.0.site) i).taken < length (put_to plan world x.0.site i) = in_time world kept leads least i within of_kind in
          let l : Letter = get_or (put_to plan world x.0.site i) (length (traffic_at (state_of world x.0.site) i).taken) w.0 in
          let next : next_letter plan world x.0.site i ≡ Some l = slice_get-get_or (put_to plan world x.0.site i) (length (traffic_at (state_of world x.0.site) i).taken) w.0 there in
          let same : l ≡ w.0 = same_letter plan is_plan states done.links world kept (events_in (x ∷ rest)) leads x.0.site is_site i l w.0 within next w.1 in
          (Take i w.0, ap (option_map (Take i)) next ∙ ap (λ (z : Letter). Some (Take i z)) same, may_take)
      world_step failed event.End step of_kind is needs = (
        End (meal_fails plan x.0.site (state_of world x.0.site)),
        refl,
        (let eats : is_eating (state_of world x.0.site).phase ≡ true = subst (λ (z : Step). may plan x.0.site (state_of world x.0.site) z ≡ true) (sym (same_Some (End failed) step is)) needs in eats),
      )
      world_step failed kind step of_kind is needs = (step, is, needs)

      goes_on : (next : WorldState) × (world_after plan world x.0 ≡ Some next)
      goes_on =
          let failed : Bool = fails_before (state_of states x.0.site).must_quit (part_of x.0.site (events_in rest)) in
          let both = ap (state_after_all plan x.0.site (taken_in states x.0.site) (state_of states x.0.site).must_quit (state_of world x.0.site)) (sym (part-same x.0.site x.0 (events_in rest) refl)) ∙ leads x.0.site is_site in
          let w = and_then_parts (λ (z : LocalState). state_after_all plan x.0.site (taken_in states x.0.site) (state_of states x.0.site).must_quit z (part_of x.0.site (events_in rest)))
          (state_after plan x.0.site (taken_in states x.0.site) failed (state_of world x.0.site) x.0.kind) (state_of states x.0.site) both in
          let own_one = own_step plan x.0.site (taken_in states x.0.site) failed (state_of world x.0.site) w.0 x.0.kind w.1 in
          let one = world_step failed x.0.kind own_one.step refl own_one.step_is own_one.needs in
          steps_on plan world x.0 one.0 is_site one.1 one.2

  -- the events that are left are accepted, each in its turn
  accepted : (rest placed : List TimedEvent) (world : WorldState) → all ≡ placed ++ rest → Sorted rest → WorldKeeps plan world → LeadsEach plan is_plan states done.links world (events_in rest)
      → AgreesEach plan is_plan states done.links world (events_in rest) → (end : WorldState) × (after_events plan world (events_in rest) ≡ Some end)
  accepted [] placed world split sorted kept leads agrees = (world, refl)
  accepted (x ∷ rest) placed world split sorted kept leads agrees =
      let next = goes_on placed x rest split world kept leads sorted.0 in
      let later = accepted rest (placed ++ x ∷ []) next.0 (split ∙ sym (append_assoc placed (x ∷ []) rest)) sorted.1 (event_keeps plan world next.0 x.0 is_plan kept next.1)
      (leads_on plan is_plan states done.links world next.0 x.0 (events_in rest) kept next.1 agrees leads) (shows_on plan (FailsSo plan) (λ s. (state_of states s).must_quit) world next.0 x.0 (events_in rest) kept next.1 agrees) in
      (later.0, ap (option_and_then (λ (z : WorldState). after_events plan z (events_in rest))) next.1 ∙ later.1)

  module _ (outcomes : FailAsShown plan journals states) (complete : IsComplete plan states) where
    leads_first : LeadsEach plan is_plan states done.links (start plan) (events_in all)
    leads_first s here = ap (λ (z : LocalState). state_after_all plan s (taken_in states s) (state_of states s).must_quit z (part_of s (events_in all))) (start_state plan s here)
        ∙ ap (state_after_all plan s (taken_in states s) (state_of states s).must_quit (start_of plan s)) (all_parts s) ∙ done.each s here

    agrees_first : AgreesEach plan is_plan states done.links (start plan) (events_in all)
    agrees_first s here k failed is few =
        let number : ended (start_of plan s) + k + 1 ≡ k + 1 = omega arith in
        let fewer : k < job_count plan s = let e : ended (start_of plan s) + k + 1 ≤ job_count plan s = subst (λ (z : LocalState). ended z + k + 1 ≤ job_count plan s) (start_state plan s here) few in omega arith in
        ap (λ (z : LocalState). (job_of plan s (ended z + k + 1)).fails) (start_state plan s here) ∙ ap (λ (n : ℕ). (job_of plan s n).fails) number
        ∙ outcomes s k failed here fewer (ap (λ (z : List EventKind). slice_get (outcomes_in (state_of states s).must_quit z) k) (sym (all_parts s)) ∙ is)

    pub have_order : (events : List Event) × IsWholeOrder plan journals events
    unfolding all
    have_order =
        let run = accepted all [] (start plan) refl (merge_sorted 0 times.timed) (start_kept plan is_plan) leads_first agrees_first in
        let same : run.0 ≡ states = journals_fix plan is_plan states done.links journals (events_in all) run.0 done.sites done.each outcomes all_parts run.1 in
        (events_in all, record { world = run.0; holds_journals = all_parts; accepted = run.1; complete = subst (IsComplete plan) (sym same) complete })
