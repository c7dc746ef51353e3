-- Where the fork of each edge of a world is, and that it has the log that the whole lists give.
use Rattle.std.proofs.Common.{◌≡◌, ℕ, suc, ◌+◌, ◌*◌, ◌<◌, ◌≤◌, ◌==◌, Bool, true, false, List, [], ◌∷◌, ◌++◌, length, map, get_or, slice_get, Option, Some, None, unwrap_or, refl, sym, ◌∙◌, ap, ap₂, subst, inl, inr, arith, if◌then◌else◌}
use Rattle.std.specs.List.{range_with_len, All}
use Rattle.std.specs.Option.{option_map, option_and_then, option_or}
use Rattle.std.proofs.lemmas.Bool.{cond-true, cond-false, eq-eqb, ne_eqb, eqb-false, lt-ltb, le-ltb, ltb-false, false≢true}
use Rattle.std.proofs.lemmas.Option.{slice_get-get_or, get_or_from_slice_get}
use Rattle.std.proofs.lemmas.List.{same_lists, get_or_default, length-map}
use Rattle.std.proofs.lemmas.List.FromFn.{length-range_with_len, get_or-map-range_with_len}
use Rattle.dine_token.specs.Fork.{SeenFork}
use Rattle.dine_token.specs.Log.{meals_of}
use Rattle.dine_token.specs.Meal.{SeenMeal}
use Rattle.dine_token.specs.declared.log_entry.Entry.{Entry}
use Rattle.dine_graph.specs.Plan.{SeenPlan, IsPlan, site_count, edge_count, edges_of, lo_of, hi_of}
use Rattle.dine_rules.specs.declared.letters.Letter.{Letter}
use Rattle.dine_rules.specs.declared.letters.Letter.TheVariants.{Fork, Request, Done, Close}
use Rattle.dine_site.specs.declared.site.places.Place.{Place}
use Rattle.dine_site.specs.declared.site.places.ForkSlot.TheVariants.{Away, Here, InMeal}
use Rattle.dine_world.specs.declared.world.sites.WorldSite.{WorldSite}
use Rattle.dine_world.specs.declared.world.EdgeEnds.{EdgeEnds}
use Rattle.dine_rules.specs.Breach.{is_fork_of}
use Rattle.dine_rules.specs.Letters.{forks_in, last_log_or}
use Rattle.dine_rules.specs.Local.{LocalState, traffic_at, edge_at, neighbour_at, is_eating}
use Rattle.dine_rules.specs.Holdings.{EatsWithAll, fork_at, hand_at}
use Rattle.dine_rules.specs.Steps.{fork_by, fork_with, hand_fork_at}
use Rattle.dine_rules.specs.Values.{value_by}
use Rattle.dine_rules.proofs.shared.two_ends.ValuesByLogs.{world_tells}
use Rattle.dine_rules.specs.Streams.{KeepsStreams}
use Rattle.dine_site.specs.Core.{forks_in_hand}
use Rattle.dine_site.specs.Places.{no_place, place_at}
use Rattle.dine_world.specs.WorldSites.{IsSiteOf, letters_in}
use Rattle.dine_world.specs.private.StepsOfSites.{HasOwnMeal}
use Rattle.dine_site.specs.Standing.{all_places}
use Rattle.dine_rules.specs.World.{WorldState, state_of, place_of, put_to}
use Rattle.dine_rules.specs.Links.{queue_to}
use Rattle.dine_rules.specs.Precedence.{is_sent_to, log_near}
use Rattle.dine_world.specs.private.Forks.{absent_site, site_at, no_ends, fork_in_slot, fork_at_site, first_fork, fork_of_edge, IsPlaceOf, IsEdgeAt, HasAllForks, AreForksOf}
use Rattle.dine_world.specs.declared.world.World.TheInside.{Inside}
use Rattle.dine_world.specs.private.WorldFields.{IsKeptWorld, seen_world}
use Rattle.dine_world.specs.Worlds.{SeenWorld, IsWorldOf, number_to, ends_seen, fork_seen, forks_seen}
use Rattle.dine_rules.proofs.shared.links.Across.{across}
use Rattle.dine_rules.proofs.shared.lists.Counting.{last_log_or-append, last_log_or-none, none_or_some}
use Rattle.dine_rules.proofs.shared.one_place.Owned.{own_is}
use Rattle.dine_rules.proofs.shared.links.Near.{near_log, put_count}
use Rattle.dine_rules.proofs.shared.links.EatersApart.{eats_with_all}
use Rattle.dine_rules.proofs.shared.links.EdgeSums.{one_fork_of_edge}
use Rattle.dine_rules.proofs.shared.links.Links.{link_holds, link_forks}
use Rattle.dine_world.proofs.all_sites.MealFits.{count_is, has_own_meal, hand_is}
use Rattle.dine_rules.proofs.shared.precedence.Preference.{is_edge}
use Rattle.dine_rules.proofs.shared.links.WorldStreams.{WorldKeeps, reached_kept}

-- ---- at a site

-- a slot that keeps what the whole lists give has the fork where it is held
slot_fork : (held eating : Bool) (meals : ℕ) (fork : SeenFork) (meal : Option SeenMeal) (i : ℕ) → (eating ≡ true → option_and_then (λ (m : SeenMeal). slice_get m.forks i) meal ≡ Some fork)
    → fork_in_slot meal i (if held then (if eating then InMeal meals else Here fork) else Away) ≡ (if held then Some fork else None)
slot_fork true true meals fork meal i h = h refl
slot_fork true false meals fork meal i h = refl
slot_fork false eating meals fork meal i h = refl

-- the fork that a site holds at a place, by the whole lists
abbrev pub fork_held_at : SeenPlan → ℕ → LocalState → ℕ → Option SeenFork
fork_held_at plan s state i = if fork_at plan s state i == 1 then Some (hand_fork_at plan s state i) else None

pub world_site_fork : (plan : SeenPlan) (state : LocalState) (world_site : WorldSite) → IsPlan plan → KeepsStreams plan world_site.core.site state → EatsWithAll plan world_site.core.site state → IsSiteOf plan state world_site
    → (i : ℕ) → i < length world_site.core.places → fork_at_site world_site i ≡ fork_held_at plan world_site.core.site state i
world_site_fork plan state world_site is_plan keeps eats is i within =
    let s : ℕ = world_site.core.site in
    let fork : SeenFork = hand_fork_at plan s state i in
    let forks : List SeenFork = forks_in_hand plan s state (all_places state) in
    ap (λ (p : Place). fork_in_slot world_site.meal i p.fork) (is.core.places i no_place within)
    ∙ slot_fork (fork_at plan s state i == 1) (is_eating state.phase) (meals_of (neighbour_at plan s i) (hand_at s state i)) fork world_site.meal i (λ eating.
    ap (option_and_then (λ (m : SeenMeal). slice_get m.forks i)) (is.meal ∙ cond-true (is_eating state.phase) (Some (record { site = s; k = state.ate; forks = forks })) None eating)
    ∙ slice_get-get_or forks i fork (omega (arith, within, count_is plan state world_site.core is_plan keeps eats is.core eating))
    ∙ ap (λ (f : SeenFork). Some f) (hand_is plan state world_site.core is_plan keeps eats is.core eating i fork within))

-- ---- in a link

first_none : (xs : List Letter) → forks_in xs ≡ 0 → first_fork xs ≡ None
first_none [] h = refl
first_none (Fork fork ∷ xs) h = absurd (omega arith)
first_none (Request edge ∷ xs) h = first_none xs h
first_none (Done ∷ xs) h = first_none xs h
first_none (Close ∷ xs) h = first_none xs h

-- a fork that lies alone among letters
record IsAlone (log : List Entry) (xs : List Letter) : Type 0 where
  at : ℕ
  fork : SeenFork
  is : slice_get xs at ≡ Some (Fork fork)
  first : first_fork xs ≡ Some fork
  last : last_log_or log xs ≡ fork.log

-- one letter before it
alone_behind : (l : Letter) (log : List Entry) (xs : List Letter) → first_fork (l ∷ xs) ≡ first_fork xs → last_log_or log (l ∷ xs) ≡ last_log_or log xs → IsAlone log xs → IsAlone log (l ∷ xs)
alone_behind l log xs first last w = record { at = suc w.at; fork = w.fork; is = w.is; first = first ∙ w.first; last = last ∙ w.last }

only_fork : (log : List Entry) (xs : List Letter) → forks_in xs ≡ 1 → IsAlone log xs
only_fork log [] h = absurd (omega arith)
only_fork log (Fork fork ∷ xs) h = record { at = 0; fork = fork; is = refl; first = refl; last = last_log_or-none fork.log xs (omega arith) }
only_fork log (Request edge ∷ xs) h = alone_behind (Request edge) log xs refl refl (only_fork log xs h)
only_fork log (Done ∷ xs) h = alone_behind Done log xs refl refl (only_fork log xs h)
only_fork log (Close ∷ xs) h = alone_behind Close log xs refl refl (only_fork log xs h)

slice_get-behind : (xs ys : List Letter) (k : ℕ) → slice_get (xs ++ ys) (length xs + k) ≡ slice_get ys k
slice_get-behind [] ys k = ap (slice_get ys) (let e : 0 + k ≡ k = omega arith in e)
slice_get-behind (x ∷ xs) ys k = ap (slice_get (x ∷ xs ++ ys)) (let e : suc (length xs) + k ≡ suc (length xs + k) = omega arith in e) ∙ slice_get-behind xs ys k

module _ (plan : SeenPlan) (is_plan : IsPlan plan) (world : WorldState) (kept : WorldKeeps plan world) (s i : ℕ) (is_site : s < site_count plan) (within : i < length (edges_of plan s)) where
  abbrev taken : List Letter
  taken = (traffic_at (state_of world s) i).taken

  abbrev coming : List Letter
  coming = queue_to plan world s i

  all_put : put_to plan world s i ≡ taken ++ coming
  all_put = link_holds plan is_plan world kept s i is_site within

  -- a Fork that lies in the link is the edge's, with the log of the last Fork put, and its value
  lies_alone : IsAlone (last_log_or [] taken) coming → first_fork coming ≡ Some (fork_by plan (edge_at plan s i) (last_log_or [] (put_to plan world s i)))
  lies_alone w =
      let other : ℕ = neighbour_at plan s i in
      let place : ℕ = place_of plan other (edge_at plan s i) in
      let over = across plan s i is_plan within in
      let there = kept.keeps other over.is_site in
      let put : slice_get (put_to plan world s i) (length taken + w.at) ≡ Some (Fork w.fork) = ap (λ (l : List Letter). slice_get l (length taken + w.at)) all_put ∙ slice_get-behind taken coming w.at ∙ w.is in
      let own : is_fork_of plan (edge_at plan other place) w.fork ≡ true = ((there.places place (omega (arith, over.within, there.every_place))).put_forks (length taken + w.at) w.fork put).0 in
      let log : w.fork.log ≡ last_log_or [] (put_to plan world s i) = sym w.last ∙ sym (last_log_or-append [] taken coming) ∙ ap (last_log_or []) (sym all_put) in
      let value : w.fork.value ≡ value_by plan (edge_at plan other place) w.fork.log = (world_tells plan is_plan world kept other place over.is_site over.within).put (length taken + w.at) w.fork put in
      w.first ∙ ap (λ (f : SeenFork). Some f) (own_is plan (edge_at plan other place) w.fork own ∙ ap (fork_with plan (edge_at plan other place) w.fork.log) value ∙ ap₂ (fork_by plan) over.same_edge log)

  -- the fork in the link to the site, by the whole lists
  pub link_fork : first_fork coming ≡ (if is_sent_to plan world s i then Some (fork_by plan (edge_at plan s i) (last_log_or [] (put_to plan world s i))) else None)
  link_fork =
      let found : Option SeenFork = Some (fork_by plan (edge_at plan s i) (last_log_or [] (put_to plan world s i))) in
      elim (none_or_some coming) [
        | inl none ↦ first_none coming none ∙ sym (cond-false (is_sent_to plan world s i) found None (le-ltb (forks_in taken) (forks_in (put_to plan world s i)) (omega (arith, put_count plan is_plan world kept s i is_site within, none))))
        | inr some ↦
            let one : forks_in coming ≡ 1 = omega (arith, some, link_forks plan is_plan world kept s i is_site within) in
            lies_alone (only_fork (last_log_or [] taken) coming one)
            ∙ sym (cond-true (is_sent_to plan world s i) found None (lt-ltb (forks_in taken) (forks_in (put_to plan world s i)) (omega (arith, put_count plan is_plan world kept s i is_site within, some))))
      ]

-- ---- at either end

-- the fork of a log that lies near an end
near_is : (f : List Entry → SeenFork) (held sent : Bool) (fork : SeenFork) (hand last : List Entry) → fork ≡ f hand
    → option_or (if held then Some fork else None) (if sent then Some (f last) else None) ≡ option_map f (if held then Some hand else (if sent then Some last else None))
near_is f true sent fork hand last same = ap (λ (x : SeenFork). Some x) same
near_is f false true fork hand last same = refl
near_is f false false fork hand last same = refl

-- four places, as two ends
two_ends : (a b c d : Option SeenFork) → option_or (option_or (option_or a b) c) d ≡ option_or (option_or a b) (option_or c d)
two_ends (Some a) b c d = refl
two_ends None (Some b) c d = refl
two_ends None None c d = refl

either_log : (f : List Entry → SeenFork) (a b : Option (List Entry)) → option_or (option_map f a) (option_map f b) ≡ option_map f (option_or a b)
either_log f (Some a) b = refl
either_log f None b = refl

log_there : (f : List Entry → SeenFork) (held_low sent_low held_high sent_high : Bool) (a b c d : List Entry) → (held_low ≡ false → sent_low ≡ false → held_high ≡ false → sent_high ≡ true)
    → option_map f (option_or (near_log held_low sent_low a b) (near_log held_high sent_high c d)) ≡ Some (f (unwrap_or (option_or (near_log held_low sent_low a b) (near_log held_high sent_high c d)) []))
log_there f true sent_low held_high sent_high a b c d h = refl
log_there f false true held_high sent_high a b c d h = refl
log_there f false false true sent_high a b c d h = refl
log_there f false false false true a b c d h = refl
log_there f false false false false a b c d h = absurd (false≢true (h refl refl refl))

module _ (plan : SeenPlan) (world : WorldState) (seen : SeenWorld) (is : IsWorldOf plan world seen) where
  abbrev is_plan : IsPlan plan
  is_plan = is.reached.is_plan

  abbrev kept : WorldKeeps plan world
  kept = reached_kept plan is.reached.events world is.reached.is_plan is.reached.reaches

  -- each site of the world
  module _ (s : ℕ) (is_site : s < site_count plan) (past : WorldSite) where
    abbrev world_site : WorldSite
    world_site = get_or seen.sites s past

    same_site : world_site.core.site ≡ s
    same_site = is.sites.site s past is_site

    pub keeps : KeepsStreams plan world_site.core.site (state_of world s)
    keeps = subst (λ (x : ℕ). KeepsStreams plan x (state_of world s)) (sym same_site) (kept.keeps s is_site)

    pub eats : EatsWithAll plan world_site.core.site (state_of world s)
    eats = subst (λ (x : ℕ). EatsWithAll plan x (state_of world s)) (sym same_site) (eats_with_all plan is.reached.events world is_plan is.reached.reaches s is_site)

    -- its meal fits it
    pub world_site_fits : HasOwnMeal world_site
    world_site_fits = has_own_meal plan (state_of world s) world_site is_plan keeps eats (is.sites.stands s past is_site)

    -- its places are those of its edges
    pub degree_is : length world_site.core.places ≡ length (edges_of plan s)
    degree_is = (is.sites.stands s past is_site).core.degree ∙ (kept.keeps s is_site).every_place

    pub edge_is : (i : ℕ) → i < length (edges_of plan s) → (place_at world_site.core i).edge ≡ edge_at plan s i
    edge_is i within = ap (λ (p : Place). p.edge) ((is.sites.stands s past is_site).core.places i no_place (omega (arith, within, degree_is))) ∙ ap (λ (x : ℕ). edge_at plan x i) same_site

    world_site_has : (i : ℕ) → i < length (edges_of plan s) → fork_at_site world_site i ≡ fork_held_at plan s (state_of world s) i
    world_site_has i within = subst (λ (x : ℕ). fork_at_site world_site i ≡ fork_held_at plan x (state_of world s) i) same_site
        (world_site_fork plan (state_of world s) world_site is_plan keeps eats (is.sites.stands s past is_site) i (omega (arith, within, degree_is)))

    -- the fork near the site, by the whole lists
    near_has : (i e : ℕ) → i < length (edges_of plan s) → edge_at plan s i ≡ e → option_or (fork_at_site world_site i) (first_fork (queue_to plan world s i)) ≡ option_map (fork_by plan e) (log_near plan world s i)
    near_has i e within same = subst (λ (x : ℕ). option_or (fork_at_site world_site i) (first_fork (queue_to plan world s i)) ≡ option_map (fork_by plan x) (log_near plan world s i)) same
        (ap₂ option_or (world_site_has i within) (link_fork plan is_plan world kept s i is_site within)
        ∙ near_is (fork_by plan (edge_at plan s i)) (fork_at plan s (state_of world s) i == 1) (is_sent_to plan world s i) (hand_fork_at plan s (state_of world s) i) (hand_at s (state_of world s) i) (last_log_or [] (put_to plan world s i))
        (ap (fork_with plan (edge_at plan s i) (hand_at s (state_of world s) i)) (world_tells plan is_plan world kept s i is_site within).in_hand))

  -- all meals fit
  pub all_fit : All HasOwnMeal seen.sites
  all_fit i past h = world_site_fits i (omega (arith, is.sites.count)) past

  -- each edge of the world
  module _ (e : ℕ) (within : e < edge_count plan) where
    abbrev low : ℕ
    low = lo_of plan e

    abbrev high : ℕ
    high = hi_of plan e

    abbrev low_at : ℕ
    low_at = place_of plan low e

    abbrev high_at : ℕ
    high_at = place_of plan high e

    number_low : number_to plan low low_at ≡ 2 * e + 1
    number_low =
        let w = is_edge plan e is_plan within in
        ap (λ (x : ℕ). 2 * x + (if lo_of plan x == low then 1 else 0)) w.low_edge ∙ ap (λ (n : ℕ). 2 * e + n) (cond-true {A = ℕ} (low == low) 1 0 (eq-eqb low low refl))

    number_high : number_to plan high high_at ≡ 2 * e
    number_high =
        let w = is_edge plan e is_plan within in
        ap (λ (x : ℕ). 2 * x + (if lo_of plan x == high then 1 else 0)) w.high_edge
        ∙ ap (λ (n : ℕ). 2 * e + n) (cond-false {A = ℕ} (low == high) 1 0 (ne_eqb low high (λ same. omega (arith, w.ordered)))) ∙ (let z : 2 * e + 0 ≡ 2 * e = omega arith in z)

    pub letters_low : letters_in seen.links (2 * e + 1) ≡ queue_to plan world low low_at
    letters_low =
        let w = is_edge plan e is_plan within in
        ap (letters_in seen.links) (sym number_low) ∙ is.links.letters low low_at w.low_site w.low_within

    letters_high : letters_in seen.links (2 * e) ≡ queue_to plan world high high_at
    letters_high =
        let w = is_edge plan e is_plan within in
        ap (letters_in seen.links) (sym number_high) ∙ is.links.letters high high_at w.high_site w.high_within

    -- where it is nowhere else, it is on its way to the higher end
    somewhere : (fork_at plan low (state_of world low) low_at == 1) ≡ false → is_sent_to plan world low low_at ≡ false → (fork_at plan high (state_of world high) high_at == 1) ≡ false → is_sent_to plan world high high_at ≡ true
    somewhere not_low not_sent not_high =
        let w = is_edge plan e is_plan within in
        let one = one_fork_of_edge plan is_plan world kept e within in
        lt-ltb (forks_in (traffic_at (state_of world high) high_at).taken) (forks_in (put_to plan world high high_at))
        (on_the_way (fork_at plan low (state_of world low) low_at) (forks_in (queue_to plan world low low_at)) (fork_at plan high (state_of world high) high_at) (forks_in (queue_to plan world high high_at))
        (forks_in (traffic_at (state_of world low) low_at).taken) (forks_in (put_to plan world low low_at)) (forks_in (traffic_at (state_of world high) high_at).taken) (forks_in (put_to plan world high high_at))
        one (eqb-false _ _ not_low) (eqb-false _ _ not_high) (ltb-false _ _ not_sent)
        (put_count plan is_plan world kept low low_at w.low_site w.low_within) (put_count plan is_plan world kept high high_at w.high_site w.high_within))
      where
        on_the_way : (a b c d t p u q : ℕ) → a + b + (c + d) ≡ 1 → (a ≡ 1 → ⊥) → (c ≡ 1 → ⊥) → p ≤ t → p ≡ t + b → q ≡ u + d → u < q
        on_the_way a b c d t p u q one not_low not_high few count other = omega arith

    -- the fork of the edge has the log that the whole lists give
    pub fork_is : fork_of_edge seen.sites seen.links (ends_seen plan e) e ≡ Some (fork_seen plan world e)
    fork_is =
        let w = is_edge plan e is_plan within in
        let a : Option SeenFork = fork_at_site (site_at seen.sites low) low_at in
        let c : Option SeenFork = fork_at_site (site_at seen.sites high) high_at in
        two_ends a (first_fork (letters_in seen.links (2 * e + 1))) c (first_fork (letters_in seen.links (2 * e)))
        ∙ ap₂ (λ (x y : List Letter). option_or (option_or a (first_fork x)) (option_or c (first_fork y))) letters_low letters_high
        ∙ ap₂ option_or (near_has low w.low_site absent_site low_at e w.low_within w.low_edge) (near_has high w.high_site absent_site high_at e w.high_within w.high_edge)
        ∙ either_log (fork_by plan e) (log_near plan world low low_at) (log_near plan world high high_at)
        ∙ log_there (fork_by plan e) (fork_at plan low (state_of world low) low_at == 1) (is_sent_to plan world low low_at) (fork_at plan high (state_of world high) high_at == 1) (is_sent_to plan world high high_at)
        (hand_at low (state_of world low) low_at) (last_log_or [] (put_to plan world low low_at)) (hand_at high (state_of world high) high_at) (last_log_or [] (put_to plan world high high_at)) somewhere

    -- a place of the edge is there
    is_place : (s i : ℕ) → s < site_count plan → i < length (edges_of plan s) → edge_at plan s i ≡ e → IsPlaceOf seen.sites s i e
    is_place s i is_site is_within same = record {
      site = omega (arith, is.sites.count);
      place = omega (arith, degree_is s is_site absent_site);
      edge = edge_is s is_site absent_site i is_within ∙ same;
    }

    pub edge_there : IsEdgeAt seen.sites seen.links (ends_seen plan e) e
    edge_there =
        let w = is_edge plan e is_plan within in
        record {
          ordered = w.ordered;
          lower = is_place low low_at w.low_site w.low_within w.low_edge;
          higher = is_place high high_at w.high_site w.high_within w.high_edge;
          within = omega (arith, within, is.links.count);
        }

-- ---- all edges

-- a list with an item for each edge
length_made : {X : Type 0} (f : ℕ → X) (n : ℕ) → length (map f (range_with_len 0 n)) ≡ n
length_made f n = length-map (range_with_len 0 n) f ∙ length-range_with_len 0 n

at_edge : {X : Type 0} (f : ℕ → X) (n e : ℕ) (d : X) → e < n → get_or (map f (range_with_len 0 n)) e d ≡ f e
at_edge f n e d within = get_or-map-range_with_len f 0 n e e d within (omega arith)

module _ (plan : SeenPlan) (world : WorldState) (seen : SeenWorld) (is : IsWorldOf plan world seen) where
  pub edges_count : length seen.edges ≡ edge_count plan
  edges_count = ap length is.edges ∙ length_made (ends_seen plan) (edge_count plan)

  pub ends_is : (e : ℕ) (d : EdgeEnds) → e < edge_count plan → get_or seen.edges e d ≡ ends_seen plan e
  ends_is e d within = ap (λ (l : List EdgeEnds). get_or l e d) is.edges ∙ at_edge (ends_seen plan) (edge_count plan) e d within

  -- the fork of each edge is somewhere
  pub has_all : HasAllForks seen.sites seen.links seen.edges
  has_all = record {
    ends = λ e h. let within : e < edge_count plan = omega (arith, edges_count) in
        subst (λ (x : EdgeEnds). IsEdgeAt seen.sites seen.links x e) (sym (ends_is e no_ends within)) (edge_there plan world seen is e within);
    forks = λ e h. let within : e < edge_count plan = omega (arith, edges_count) in
        (fork_seen plan world e, ap (λ (x : EdgeEnds). fork_of_edge seen.sites seen.links x e) (ends_is e no_ends within) ∙ fork_is plan world seen is e within);
  }

  -- the forks of the edges are those that the whole lists give
  pub forks_are : (forks : List SeenFork) → AreForksOf seen.sites seen.links seen.edges forks → forks ≡ forks_seen plan world
  forks_are forks are =
      let count : length forks ≡ edge_count plan = are.count ∙ edges_count in
      same_lists forks (forks_seen plan world) (count ∙ sym (length_made (fork_seen plan world) (edge_count plan))) (λ e d h.
      let within : e < edge_count plan = omega (arith, count) in
      let fork : slice_get forks e ≡ Some (fork_seen plan world e) = are.each e (omega (arith, edges_count)) ∙ ap (λ (x : EdgeEnds). fork_of_edge seen.sites seen.links x e) (ends_is e no_ends within) ∙ fork_is plan world seen is e within in
      get_or_from_slice_get forks e (fork_seen plan world e) d fork ∙ sym (at_edge (fork_seen plan world) (edge_count plan) e d within))

  -- what a look at an edge finds: its ends, its fork, and the same in the list of all
  pub edge_here : (e : ℕ) (ends : EdgeEnds) → e < length seen.edges → ends ≡ get_or seen.edges e ends → IsEdgeAt seen.sites seen.links ends e
  edge_here e ends h read = subst (λ (x : EdgeEnds). IsEdgeAt seen.sites seen.links x e) (sym (read ∙ get_or_default seen.edges e ends no_ends h)) (has_all.ends e h)

  pub fork_here : (e : ℕ) (ends : EdgeEnds) → e < length seen.edges → ends ≡ get_or seen.edges e ends → fork_of_edge seen.sites seen.links ends e ≡ slice_get (forks_seen plan world) e
  fork_here e ends h read =
      let within : e < edge_count plan = omega (arith, edges_count) in
      let d : SeenFork = fork_seen plan world e in
      ap (λ (x : EdgeEnds). fork_of_edge seen.sites seen.links x e) (read ∙ ends_is e ends within) ∙ fork_is plan world seen is e within
      ∙ sym (slice_get-get_or (forks_seen plan world) e d (omega (arith, within, length_made (fork_seen plan world) (edge_count plan)))
      ∙ ap (λ (f : SeenFork). Some f) (at_edge (fork_seen plan world) (edge_count plan) e d within))

-- the world_site and the letters that were read at the ends of an edge
pub world_site_read : (sites : List WorldSite) (s i e : ℕ) (world_site : WorldSite) → IsPlaceOf sites s i e → world_site ≡ get_or sites s world_site → world_site ≡ site_at sites s
world_site_read sites s i e world_site is read = read ∙ get_or_default sites s world_site absent_site is.site

pub letters_read : (links : List (List Letter)) (n : ℕ) (letters : List Letter) → n < length links → letters ≡ get_or links n letters → letters ≡ letters_in links n
letters_read links n letters h read = read ∙ get_or_default links n letters [] h

-- a meal fits at a place of the world
pub place_fits : (sites : List WorldSite) (s i e : ℕ) (world_site : WorldSite) → All HasOwnMeal sites → IsPlaceOf sites s i e → world_site ≡ get_or sites s world_site → HasOwnMeal world_site
place_fits sites s i e world_site all is read = subst HasOwnMeal (sym read) (all s world_site is.site)

-- ---- a look at the world as it is kept

module _ (world : Inside) (kept : IsKeptWorld world) (edges : List EdgeEnds) (same : edges ≡ world.edges.items) (e : ℕ) (ends : EdgeEnds) (within : e < length edges) (read : ends ≡ get_or edges e ends) where
  within_kept : e < length world.edges.items
  within_kept = omega (arith, within, ap length same)

  read_kept : ends ≡ get_or world.edges.items e ends
  read_kept = read ∙ ap (λ (l : List EdgeEnds). get_or l e ends) same

  -- the edge that was read lies where its ends say
  pub edge_read : IsEdgeAt world.sites.items world.links.items ends e
  edge_read = edge_here kept.plan kept.state (seen_world world) kept.stands e ends within_kept read_kept

  -- its fork is that of each world for which this stands
  pub fork_read : (plan : SeenPlan) (state : WorldState) → IsWorldOf plan state (seen_world world) → fork_of_edge world.sites.items world.links.items ends e ≡ slice_get (forks_seen plan state) e
  fork_read plan state is = fork_here plan state (seen_world world) is e ends within_kept read_kept

-- the meals of the sites fit
pub meals_fit : (world : Inside) → IsKeptWorld world → All HasOwnMeal world.sites.items
meals_fit world kept = all_fit kept.plan kept.state (seen_world world) kept.stands
