-- A world whose sites have ended their meals: no site eats, and each fork is where the whole lists say.
use Rattle.std.proofs.Common.{◌≡◌, ℕ, zero, suc, ◌<◌, true, false, List, [], ◌∷◌, length, map, get_or, Option, Some, None, refl, sym, ◌∙◌, ap, subst, inl, inr, arith, MatchOption}
use Rattle.std.proofs.lemmas.Bool.{cases_Bool, cond-true, cond-false, eq-eqb}
use Rattle.std.proofs.Math.ListN.{get_or-map}
use Rattle.std.proofs.lemmas.List.{length-map}
use Rattle.dine_token.specs.Fork.{SeenFork}
use Rattle.dine_token.specs.Meal.{SeenMeal}
use Rattle.dine_graph.specs.Plan.{SeenPlan, IsPlan, site_count}
use Rattle.dine_site.specs.declared.site.places.Place.{Place}
use Rattle.dine_world.specs.declared.world.sites.WorldSite.{WorldSite}
use Rattle.dine_rules.specs.Local.{LocalState, is_eating}
use Rattle.dine_rules.specs.Holdings.{EatsWithAll, fork_at}
use Rattle.dine_rules.specs.Steps.{hand_fork_at}
use Rattle.dine_rules.specs.Streams.{KeepsStreams}
use Rattle.dine_site.specs.Core.{SeenCore, forks_in_hand}
use Rattle.dine_site.specs.Places.{no_place, place_at, places_with_forks, IsMealOf}
use Rattle.dine_world.specs.WorldSites.{IsSiteOf}
use Rattle.dine_site.specs.Standing.{all_places}
use Rattle.dine_rules.specs.World.{WorldState, state_of}
use Rattle.dine_world.specs.Worlds.{SeenWorld, IsWorldOf, forks_seen}
use Rattle.dine_world.specs.private.Forks.{absent_site, site_at, edge_ends, fork_in_slot, fork_at_site, fork_of_edge, IsPlaceOf, HasAllForks, AreForksOf, meal_ended_by, meal_ended}
use Rattle.dine_site.proofs.shared.one_site.Ending.{get_or_put_back, length_put_back}
use Rattle.dine_world.proofs.all_sites.MealFits.{count_is, hand_is}
use Rattle.dine_world.proofs.all_sites.ForkPlaces.{world_site_fork, keeps, eats, has_all, forks_are}
use Rattle.dine_world.proofs.all_sites.ForksOut.{same_four}

-- ---- a site

-- the places stay those of their edges
put_back_edge : (places : List Place) (forks : List SeenFork) (i : ℕ) → (get_or (places_with_forks places forks) i no_place).edge ≡ (get_or places i no_place).edge
put_back_edge [] forks i = refl
put_back_edge (place ∷ places) [] i = refl
put_back_edge (place ∷ places) (fork ∷ forks) zero = refl
put_back_edge (place ∷ places) (fork ∷ forks) (suc i) = put_back_edge places forks i

meal_ended_edge : (meal : Option SeenMeal) (core : SeenCore) (i : ℕ) → (place_at (meal_ended_by meal core) i).edge ≡ (place_at core i).edge
meal_ended_edge None core i = refl
meal_ended_edge (Some meal) core i = put_back_edge core.places meal.forks i

meal_ended_degree : (meal : Option SeenMeal) (core : SeenCore) → length (meal_ended_by meal core).places ≡ length core.places
meal_ended_degree None core = refl
meal_ended_degree (Some meal) core = length_put_back core.places meal.forks

module _ (plan : SeenPlan) (state : LocalState) (world_site : WorldSite) (is_plan : IsPlan plan) (keeps : KeepsStreams plan world_site.core.site state) (eats : EatsWithAll plan world_site.core.site state) (is : IsSiteOf plan state world_site) (i : ℕ) (within : i < length world_site.core.places) where
  abbrev s : ℕ
  s = world_site.core.site

  abbrev hands : List SeenFork
  hands = forks_in_hand plan s state (all_places state)

  abbrev fork : SeenFork
  fork = hand_fork_at plan s state i

  -- the fork of place i when the meal is over, by what the meal was
  abbrev after_meal : Option SeenMeal → Option SeenFork
  after_meal meal = fork_in_slot None i (place_at (meal_ended_by meal world_site.core) i).fork

  -- from the meal the fork comes back to its place
  from_meal : is_eating state.phase ≡ true → after_meal world_site.meal ≡ fork_at_site world_site i
  from_meal eating =
      ap after_meal (is.meal ∙ cond-true (is_eating state.phase) (Some (record { site = s; k = state.ate; forks = hands })) None eating)
      ∙ ap (λ (p : Place). fork_in_slot None i p.fork) (get_or_put_back world_site.core.places hands i no_place fork within (count_is plan state world_site.core is_plan keeps eats is.core eating))
      ∙ ap (λ (f : SeenFork). Some f) (hand_is plan state world_site.core is_plan keeps eats is.core eating i fork within)
      ∙ sym (world_site_fork plan state world_site is_plan keeps eats is i within ∙ cond-true _ (Some fork) None (eq-eqb (fork_at plan s state i) 1 (eats eating i (omega (arith, within, is.core.degree)))))

  -- in hand it stays
  from_hand : is_eating state.phase ≡ false → after_meal world_site.meal ≡ fork_at_site world_site i
  from_hand awake =
      let none : world_site.meal ≡ None = is.meal ∙ cond-false (is_eating state.phase) (Some (record { site = s; k = state.ate; forks = hands })) None awake in
      ap after_meal none ∙ sym (ap (λ (o : Option SeenMeal). fork_in_slot o i (place_at world_site.core i).fork) none)

  pub meal_ended_fork : fork_at_site (meal_ended world_site) i ≡ fork_at_site world_site i
  meal_ended_fork = elim (cases_Bool (is_eating state.phase)) [ inl eating ↦ from_meal eating | inr awake ↦ from_hand awake ]

-- ---- all sites

meal_ended_at : (sites : List WorldSite) (s : ℕ) → site_at (map meal_ended sites) s ≡ meal_ended (site_at sites s)
meal_ended_at sites s = get_or-map meal_ended sites s absent_site

meal_ended_count : (sites : List WorldSite) → length (map meal_ended sites) ≡ length sites
meal_ended_count sites = length-map sites meal_ended

meal_ended_place : (sites : List WorldSite) (s i e : ℕ) → IsPlaceOf sites s i e → IsPlaceOf (map meal_ended sites) s i e
meal_ended_place sites s i e is =
    let world_site = site_at sites s in
    record {
      site = omega (arith, is.site, meal_ended_count sites);
      place = subst (λ (x : WorldSite). i < length x.core.places) (sym (meal_ended_at sites s)) (omega (arith, is.place, meal_ended_degree world_site.meal world_site.core));
      edge = ap (λ (x : WorldSite). (place_at x.core i).edge) (meal_ended_at sites s) ∙ meal_ended_edge world_site.meal world_site.core i ∙ is.edge;
    }

module _ (plan : SeenPlan) (world : WorldState) (seen : SeenWorld) (is : IsWorldOf plan world seen) where
  -- a place has its fork as before
  place_stays : (s i e : ℕ) → IsPlaceOf seen.sites s i e → fork_at_site (site_at (map meal_ended seen.sites) s) i ≡ fork_at_site (site_at seen.sites s) i
  place_stays s i e there =
      let is_site : s < site_count plan = omega (arith, there.site, is.sites.count) in
      ap (λ (x : WorldSite). fork_at_site x i) (meal_ended_at seen.sites s)
      ∙ meal_ended_fork plan (state_of world s) (site_at seen.sites s) is.reached.is_plan (keeps plan world seen is s is_site absent_site) (eats plan world seen is s is_site absent_site) (is.sites.stands s absent_site is_site) i there.place

  -- and so has an edge
  edge_stays : (e : ℕ) → e < length seen.edges → fork_of_edge (map meal_ended seen.sites) seen.links (edge_ends seen.edges e) e ≡ fork_of_edge seen.sites seen.links (edge_ends seen.edges e) e
  edge_stays e h =
      let ends = edge_ends seen.edges e in
      let w = (has_all plan world seen is).ends e h in
      same_four _ _ _ _ _ _ _ _ (place_stays ends.lower ends.lower_place e w.lower) refl (place_stays ends.higher ends.higher_place e w.higher) refl

  -- the fork of each edge is somewhere
  pub meal_ended_has_all : HasAllForks (map meal_ended seen.sites) seen.links seen.edges
  meal_ended_has_all =
      let all = has_all plan world seen is in
      record {
        ends = λ e h. let w = all.ends e h in record {
          ordered = w.ordered;
          lower = meal_ended_place seen.sites (edge_ends seen.edges e).lower (edge_ends seen.edges e).lower_place e w.lower;
          higher = meal_ended_place seen.sites (edge_ends seen.edges e).higher (edge_ends seen.edges e).higher_place e w.higher;
          within = w.within;
        };
        forks = λ e h. ((all.forks e h).0, edge_stays e h ∙ (all.forks e h).1);
      }

  -- the forks of the edges are those that the whole lists give
  pub meal_ended_forks : (forks : List SeenFork) → AreForksOf (map meal_ended seen.sites) seen.links seen.edges forks → forks ≡ forks_seen plan world
  meal_ended_forks forks are = forks_are plan world seen is forks (record { count = are.count; each = λ e h. are.each e h ∙ edge_stays e h })
