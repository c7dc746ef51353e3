-- An event that can happen, at the site where it happens.
use Rattle.std.proofs.Common.{◌≡◌, ◌<◌, true, List, length, get_or, slice_get, slice_set, Some, sym, ◌∙◌, subst, arith}
use Rattle.std.proofs.lemmas.Option.{get_or_from_slice_get, slice_get_within}
use Rattle.dine_graph.specs.Plan.{SeenPlan, site_count}
use Rattle.dine_rules.specs.declared.letters.Letter.{Letter}
use Rattle.dine_rules.specs.declared.events.Event.{Event}
use Rattle.dine_world.specs.declared.world.sites.WorldSite.{WorldSite}
use Rattle.dine_rules.specs.World.{WorldState, state_of, world_after}
use Rattle.dine_rules.specs.Steps.{Step, shape_of}
use Rattle.dine_world.specs.WorldSites.{can_do}
use Rattle.dine_world.specs.private.StepsOfSites.{SiteSteps, HasOwnMeal, HasRoomFor, MovesLetters, TakesAllowed}
use Rattle.dine_world.specs.Worlds.{WorldStep, IsWorldOf, SeenWorld, can_happen}
use Rattle.dine_rules.proofs.shared.links.WorldStreams.{some_of}
use Rattle.dine_world.proofs.all_sites.CanHappen.{can_happen_is}
use Rattle.dine_world.proofs.all_sites.MealFits.{has_own_meal}
use Rattle.dine_world.proofs.all_sites.WorldSteps.{eats_here, has_room, is_plan, letters_moved, takes_allowed, keeps_here, world_site_there, world_next}

module _ (seen : SeenWorld) (e : Event) (can : can_happen seen e ≡ true) where
  -- the site is there
  pub site_within : e.site < length seen.sites
  site_within = let w = world_site_there seen.links e.kind (slice_get seen.sites e.site) can in slice_get_within seen.sites e.site w.0 w.1

  -- and may do that
  pub site_can : (world_site : WorldSite) → world_site ≡ get_or seen.sites e.site world_site → can_do seen.links world_site.core e.kind ≡ true
  site_can world_site is =
      let w = world_site_there seen.links e.kind (slice_get seen.sites e.site) can in
      subst (λ (x : WorldSite). can_do seen.links x.core e.kind ≡ true) (sym (is ∙ get_or_from_slice_get seen.sites e.site w.0 world_site w.1)) w.2

  module _ (plan : SeenPlan) (world : WorldState) (stands : IsWorldOf plan world seen) (world_site : WorldSite) (is : world_site ≡ get_or seen.sites e.site world_site) where
    is_site : e.site < site_count plan
    is_site = omega (arith, site_within, stands.sites.count)

    can_there : can_do seen.links (get_or seen.sites e.site world_site).core e.kind ≡ true
    can_there = subst (λ (x : WorldSite). can_do seen.links x.core e.kind ≡ true) is (site_can world_site is)

    happens : (new : WorldState) × (world_after plan world e ≡ Some new)
    happens = some_of (world_after plan world e) (sym (can_happen_is plan world seen stands e) ∙ can)

    -- its meal is that of its core
    pub site_fits : HasOwnMeal world_site
    site_fits = subst HasOwnMeal (sym is) (has_own_meal plan (state_of world e.site) (get_or seen.sites e.site world_site) (is_plan plan world seen stands)
        (keeps_here plan world seen stands e.site is_site world_site) (eats_here plan world seen stands e.site is_site world_site) (stands.sites.stands e.site world_site is_site))

    -- what it takes is in turn
    pub site_allowed : TakesAllowed seen.links world_site.core (shape_of e.kind)
    site_allowed = subst (λ (x : WorldSite). TakesAllowed seen.links x.core (shape_of e.kind)) (sym is) (takes_allowed plan world seen stands e.site is_site world_site e.kind happens.0 happens.1 can_there)

    -- there is room for what it puts
    pub site_room : HasRoomFor seen.links world_site.core (shape_of e.kind)
    site_room = subst (λ (x : WorldSite). HasRoomFor seen.links x.core (shape_of e.kind)) (sym is) (has_room plan world seen stands e.site is_site world_site e.kind happens.0 happens.1 can_there)

    -- where its letter goes
    pub site_moved : (changed : WorldSite) (links : List (List Letter)) → SiteSteps e.kind world_site changed seen.links links
        → (one : Step) × MovesLetters plan (state_of world e.site) (get_or seen.sites e.site world_site).core (shape_of e.kind) one seen.links links
    site_moved changed links does = letters_moved plan world seen stands e.site is_site world_site e.kind happens.0 happens.1 changed links can_there (subst (λ (x : WorldSite). SiteSteps e.kind x changed seen.links links) is does)

    -- and the world represents the state after it
    pub site_done : (changed : WorldSite) (links : List (List Letter)) → SiteSteps e.kind world_site changed seen.links links
        → WorldStep plan world e (record { sites = slice_set seen.sites e.site changed; links = links; edges = seen.edges; bound = seen.bound })
    site_done changed links does = record {
      after = happens.0;
      happens = happens.1;
      stands = world_next plan world seen stands e.site is_site world_site e.kind happens.0 happens.1 changed links can_there (subst (λ (x : WorldSite). SiteSteps e.kind x changed seen.links links) is does);
    }
