-- What is read at a place of a site: the link that leads to it, and which of Done and Close were put and taken.
use Rattle.std.proofs.Common.{◌≡◌, ℕ, ◌<◌, ◌≤◌, ◌&&◌, nat_lt, Bool, true, false, List, get_or, length, Some, None, ◌∙◌, ap, ap₂, arith}
use Rattle.std.proofs.lemmas.Bool.{and_parts, cond-false, cond-true, le-ltb, lt-ltb, ltb-true}
use Rattle.dine_graph.specs.Plan.{SeenPlan, edges_of, site_count}
use Rattle.dine_rules.specs.declared.letters.Letter.{Letter}
use Rattle.dine_world.specs.declared.world.sites.WorldSite.{WorldSite}
use Rattle.dine_rules.specs.Links.{queue_to}
use Rattle.dine_rules.specs.Local.{traffic_at}
use Rattle.dine_rules.specs.World.{WorldState, state_of}
use Rattle.dine_rules.proofs.shared.links.Links.{link_letters}
use Rattle.dine_rules.proofs.shared.links.WorldStreams.{reached_kept}
use Rattle.dine_site.specs.Core.{SeenCore, Refines}
use Rattle.dine_site.specs.LinkNumbers.{link_to}
use Rattle.dine_site.specs.Places.{place_at}
use Rattle.dine_world.specs.Whereabouts.{at_place, is_place, said_in}
use Rattle.dine_world.specs.WorldSites.{letters_in}
use Rattle.dine_world.specs.Worlds.{IsWorldOf, SeenWorld, number_to}
use Rattle.dine_site.specs.DoneAndClose.{said_at}
use Rattle.dine_world.proofs.all_sites.ForkPlaces.{degree_is, letters_read}
use Rattle.dine_world.proofs.all_sites.LinkNumbers.{to_in_range}
use Rattle.dine_world.proofs.all_sites.WorldOpened.{a_core}
use Rattle.dine_site.proofs.shared.one_site.Stands.{place_is}

-- what is said of a place, and of one that is not there
pub said_there : {A : Type 0} (plan : SeenPlan) (s i : ℕ) (answer : A) → is_place plan s i ≡ true → at_place plan s i answer ≡ Some answer
said_there plan s i answer there = cond-true (is_place plan s i) (Some answer) None there

pub said_of_none : {A : Type 0} (plan : SeenPlan) (s i : ℕ) (answer : A) → is_place plan s i ≡ false → at_place plan s i answer ≡ None
said_of_none plan s i answer none = cond-false (is_place plan s i) (Some answer) None none

-- ---- the site that was read

module _ (plan : SeenPlan) (world : WorldState) (seen : SeenWorld) (is : IsWorldOf plan world seen) (s i : ℕ) (world_site : WorldSite) (within : s < length seen.sites) (read : world_site ≡ get_or seen.sites s world_site) where
  is_site : s < site_count plan
  is_site = omega (arith, within, is.sites.count)

  degree : length world_site.core.places ≡ length (edges_of plan s)
  degree = ap (λ (x : WorldSite). length x.core.places) read ∙ degree_is plan world seen is s is_site world_site

  -- it has the place, and its core represents its state
  pub place_there : i < length world_site.core.places → (is_place plan s i ≡ true) × (world_site.core.site ≡ s) × Refines plan (state_of world s) world_site.core
  place_there h = (
    ap₂ (λ (a b : Bool). a && b) (lt-ltb s (site_count plan) is_site) (lt-ltb i (length (edges_of plan s)) (omega (arith, h, degree))),
    ap (λ (x : WorldSite). x.core.site) read ∙ is.sites.site s world_site is_site,
    a_core plan world seen s world_site is within read,
  )

  -- it does not have it
  pub place_past : length world_site.core.places ≤ i → is_place plan s i ≡ false
  place_past h = ap₂ (λ (a b : Bool). a && b) (lt-ltb s (site_count plan) is_site) (le-ltb i (length (edges_of plan s)) (omega (arith, h, degree)))

-- ---- the place of its core

module _ (plan : SeenPlan) (world : WorldState) (seen : SeenWorld) (is : IsWorldOf plan world seen) (s i : ℕ) (core : SeenCore) (within : i < length core.places)
    (there : (is_place plan s i ≡ true) × (core.site ≡ s) × Refines plan (state_of world s) core) where
  here_site : s < site_count plan
  here_site = ltb-true s (site_count plan) (and_parts (nat_lt s (site_count plan)) (nat_lt i (length (edges_of plan s))) there.0).0

  here_place : i < length (edges_of plan s)
  here_place = ltb-true i (length (edges_of plan s)) (and_parts (nat_lt s (site_count plan)) (nat_lt i (length (edges_of plan s))) there.0).1

  -- the number of the link to it
  number_is : link_to core.site (place_at core i) ≡ number_to plan s i
  number_is = ap (link_to core.site) (place_is plan (state_of world s) core there.2 i within) ∙ ap (λ (x : ℕ). number_to plan x i) there.1

  pub link_there : (n : ℕ) → n ≡ link_to core.site (place_at core i) → n < length seen.links
  link_there n n_is = omega (arith, n_is, number_is, to_in_range plan s i is.reached.is_plan here_place, is.links.count)

  -- the letters in it
  pub link_read : (n : ℕ) (letters : List Letter) → n ≡ link_to core.site (place_at core i) → letters ≡ get_or seen.links n letters → letters ≡ queue_to plan world s i
  link_read n letters n_is read =
      letters_read seen.links n letters (link_there n n_is) read ∙ ap (letters_in seen.links) (n_is ∙ number_is) ∙ is.links.letters s i here_site here_place

  pub link_few : length (queue_to plan world s i) ≤ 4
  link_few = link_letters plan is.reached.is_plan world (reached_kept plan is.reached.events world is.reached.is_plan is.reached.reaches) s i here_site here_place

  -- what was said there
  pub said_is : said_at (place_at core i) ≡ said_in (traffic_at (state_of world s) i)
  said_is = ap said_at (place_is plan (state_of world s) core there.2 i within)
