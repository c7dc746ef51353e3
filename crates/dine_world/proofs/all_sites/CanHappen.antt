-- An event can happen exactly if it is enabled. That a Take needs no test of its letter is the law of next letters.
use Rattle.std.proofs.Common.{◌≡◌, ℕ, zero, suc, ◌<◌, ◌≤◌, nat_lt, Bool, true, false, List, [], ◌∷◌, length, drop, get_or, slice_get, slice_set, option_map, option_and_then, Option, Some, None, is_some, refl, sym, ◌∙◌, ap, subst, inl, inr, arith, if◌then◌else◌}
use Rattle.std.proofs.lemmas.Bool.{cases_lt, cond-false, cond-true, le-ltb, lt-ltb, ltb-true}
use Rattle.std.proofs.lemmas.Option.{slice_get_cases, slice_get_past}
use Rattle.dine_graph.specs.Plan.{SeenPlan, edges_of, site_count}
use Rattle.dine_rules.specs.declared.events.Event.{Event}
use Rattle.dine_rules.specs.declared.events.EventKind.{EventKind}
use Rattle.dine_rules.specs.declared.events.EventKind.TheVariants as event
use Rattle.dine_rules.specs.declared.letters.Letter.{Letter}
use Rattle.dine_site.specs.declared.site.places.Place.{Place}
use Rattle.dine_world.specs.declared.world.sites.WorldSite.{WorldSite}
use Rattle.dine_rules.specs.Local.{LocalState, is_eating, traffic_at}
use Rattle.dine_rules.specs.Breach.{is_allowed}
use Rattle.dine_rules.specs.Steps.{Step, after, may}
use Rattle.dine_rules.specs.Streams.{KeepsStreams}
use Rattle.dine_site.specs.Core.{SeenCore, Refines}
use Rattle.dine_site.specs.LinkNumbers.{link_to}
use Rattle.dine_world.specs.WorldSites.{IsSiteOf, can_do, letters_in, next_in}
use Rattle.dine_rules.specs.World.{WorldState, is_enabled, local_after, next_letter, put_to, site_after, state_of, step_of}
use Rattle.dine_world.specs.Worlds.{IsWorldOf, SeenWorld, can_at, can_happen, number_to}
use Rattle.dine_rules.proofs.shared.links.NextLetters.{reached_allowed}
use Rattle.dine_site.proofs.shared.lists.Ranges.{and_along, begin_by}
use Rattle.dine_site.proofs.shared.one_site.SiteTests.{ask_is, close_is, done_is, give_is, guarded, hunger_is, quit_is, may_be, next_is}
use Rattle.dine_site.proofs.shared.one_site.Stands.{place_is}
use Rattle.dine_rules.proofs.shared.links.WorldStreams.{WorldKeeps, reached_kept}

-- ---- the links

-- the first letter of a link
head_of : (links : List (List Letter)) (n : ℕ) → option_and_then (λ (letters : List Letter). slice_get letters 0) (slice_get links n) ≡ slice_get (letters_in links n) 0
head_of [] n = refl
head_of (letters ∷ links) zero = refl
head_of (letters ∷ links) (suc n) = head_of links n

-- the first letter that is left
first_left : (k : ℕ) (letters : List Letter) → slice_get (drop k letters) 0 ≡ slice_get letters k
first_left zero letters = refl
first_left (suc k) [] = refl
first_left (suc k) (l ∷ letters) = first_left k letters

module _ (plan : SeenPlan) (world : WorldState) (seen : SeenWorld) (is : IsWorldOf plan world seen) where
  kept : WorldKeeps plan world
  kept = reached_kept plan is.reached.events world is.reached.is_plan is.reached.reaches

  module _ (core : SeenCore) (stands : Refines plan (state_of world core.site) core) (is_site : core.site < site_count plan) where
    keeps : KeepsStreams plan core.site (state_of world core.site)
    keeps = kept.keeps core.site is_site

    -- the next letter in the link to the site at a place
    pub next_here : (i : ℕ) → i < length core.places → next_in seen.links core i ≡ next_letter plan world core.site i
    next_here i within =
        let at : i < length (edges_of plan core.site) = omega (arith, stands.degree, keeps.every_place) in
        let head : List (List Letter) → ℕ → Option Letter = λ links n. option_and_then (λ (letters : List Letter). slice_get letters 0) (slice_get links n) in
        ap (λ (p : Place). head seen.links (link_to core.site p)) (place_is plan (state_of world core.site) core stands i within)
        ∙ head_of seen.links (number_to plan core.site i)
        ∙ ap (λ (letters : List Letter). slice_get letters 0) (is.links.letters core.site i is_site at)
        ∙ first_left (length (traffic_at (state_of world core.site) i).taken) (put_to plan world core.site i)

    -- and it is allowed
    next_may_come : (i : ℕ) (l : Letter) → i < length core.places → next_letter plan world core.site i ≡ Some l → is_allowed plan core.site (state_of world core.site) i l ≡ true
    next_may_come i l within next = reached_allowed plan is.reached.events world core.site i is.reached.is_plan is.reached.reaches is_site (omega (arith, stands.degree, keeps.every_place)) l next

    -- what an event needs, by the core and by the state
    kind_is : (kind : EventKind) → can_do seen.links core kind ≡ may_be plan core.site (state_of world core.site) (step_of plan world core.site kind)
    kind_is (event.Take i) =
        and_along (nat_lt i (length core.places)) _ _ (λ lt. ap is_some (next_here i (ltb-true i (length core.places) lt)))
        ∙ next_is plan (state_of world core.site) core stands keeps i (next_letter plan world core.site i) (λ l within next. next_may_come i l within next)
    kind_is (event.Give i) = guarded i (length core.places) (length (state_of world core.site).traffic) _ _ stands.degree (λ within. give_is plan (state_of world core.site) core stands keeps i within)
    kind_is event.End = ap is_eating stands.phase
    kind_is event.Begin = begin_by plan (state_of world core.site) core stands keeps
    kind_is event.Quit = quit_is plan (state_of world core.site) core stands keeps
    kind_is event.Hungry = hunger_is plan (state_of world core.site) core stands keeps
    kind_is (event.Ask i) = guarded i (length core.places) (length (state_of world core.site).traffic) _ _ stands.degree (λ within. ask_is plan (state_of world core.site) core stands keeps i within)
    kind_is (event.Done i) = guarded i (length core.places) (length (state_of world core.site).traffic) _ _ stands.degree (λ within. done_is plan (state_of world core.site) core stands keeps i within)
    kind_is (event.Close i) = guarded i (length core.places) (length (state_of world core.site).traffic) _ _ stands.degree (λ within. close_is plan (state_of world core.site) core stands keeps i within)

-- ---- the world

-- the event's site takes the step, if it may
is_step : (plan : SeenPlan) (world : WorldState) (s : ℕ) (o : Option Step)
    → is_some (option_map (slice_set world s) (option_and_then (local_after plan s (state_of world s)) o)) ≡ may_be plan s (state_of world s) o
is_step plan world s None = refl
is_step plan world s (Some step) = one (may plan s (state_of world s) step) (after plan s (state_of world s) step) where
  one : (b : Bool) (new : LocalState) → is_some (option_map (slice_set world s) (if b then Some new else None)) ≡ b
  one true new = refl
  one false new = refl

-- the site with a number that is small enough
pub site_at : (sites : List WorldSite) (s : ℕ) → s < length sites → (world_site : WorldSite) × (slice_get sites s ≡ Some world_site) × (get_or sites s world_site ≡ world_site)
site_at sites s h = elim (slice_get_cases sites s).1 [
  | inl w ↦ (w.0, w.2, w.3)
  | inr past ↦ absurd (omega (arith, past.0))
]

module _ (plan : SeenPlan) (world : WorldState) (seen : SeenWorld) (is : IsWorldOf plan world seen) where
  -- an event of a site of the plan
  site_is : (e : Event) → e.site < site_count plan → can_happen seen e ≡ is_enabled plan world e
  site_is e is_site =
      let w = site_at seen.sites e.site (omega (arith, is.sites.count)) in
      let core : SeenCore = w.0.core in
      let site : core.site ≡ e.site = ap (λ (x : WorldSite). x.core.site) (sym w.2) ∙ is.sites.site e.site w.0 is_site in
      let world_site : IsSiteOf plan (state_of world e.site) w.0 = subst (IsSiteOf plan (state_of world e.site)) w.2 (is.sites.stands e.site w.0 is_site) in
      let stands : Refines plan (state_of world core.site) core = subst (λ (x : ℕ). Refines plan (state_of world x) core) (sym site) world_site.core in
      ap (can_at seen.links e.kind) w.1
      ∙ kind_is plan world seen is core stands (omega (arith, site)) e.kind
      ∙ ap (λ (x : ℕ). may_be plan x (state_of world x) (step_of plan world x e.kind)) site
      ∙ sym (is_step plan world e.site (step_of plan world e.site e.kind))
      ∙ ap is_some (sym (cond-true (nat_lt e.site (site_count plan)) (option_map (slice_set world e.site) (site_after plan world e.site e.kind)) None (lt-ltb e.site (site_count plan) is_site)))

  -- an event of no site
  past_is : (e : Event) → site_count plan ≤ e.site → can_happen seen e ≡ is_enabled plan world e
  past_is e past =
      ap (can_at seen.links e.kind) (slice_get_past seen.sites e.site (omega (arith, is.sites.count)))
      ∙ ap is_some (sym (cond-false (nat_lt e.site (site_count plan)) (option_map (slice_set world e.site) (site_after plan world e.site e.kind)) None (le-ltb e.site (site_count plan) past)))

  pub can_happen_is : (e : Event) → can_happen seen e ≡ is_enabled plan world e
  can_happen_is e = elim (cases_lt e.site (site_count plan)) [
    | inl within ↦ site_is e within
    | inr past ↦ past_is e past
  ]
