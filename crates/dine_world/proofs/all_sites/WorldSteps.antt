-- A world that represents a state, and an event that is enabled there: what the site may do, and that the world stands
-- for the state after it.
use Rattle.std.proofs.Common.{◌≡◌, ◌≢◌, ℕ, ◌-◌, ◌<◌, Bool, true, List, [], ◌∷◌, ◌++◌, length, get_or, slice_set, Option, Some, None, refl, sym, ◌∙◌, ap, ap₂, subst, inl, inr, arith}
use Rattle.std.proofs.Math.ListN.{get_or-map}
use Rattle.std.proofs.lemmas.Bool.{cases_eq, and_parts, false≢true, ltb-true}
use Rattle.std.proofs.lemmas.List.{get_or-set_same, get_or-set_other, length-set, length_push}
use Rattle.dine_graph.specs.Plan.{SeenPlan, SeenJob, IsPlan, site_count, edges_of, jobs_of, no_job}
use Rattle.dine_rules.specs.declared.letters.Letter.{Letter}
use Rattle.dine_rules.specs.declared.events.Event.{Event}
use Rattle.dine_rules.specs.declared.events.EventKind.{EventKind}
use Rattle.dine_world.specs.declared.world.sites.WorldSite.{WorldSite}
use Rattle.dine_rules.specs.Breach.{is_allowed}
use Rattle.dine_rules.specs.Local.{LocalState, meal_fails, traffic_at, edge_at, neighbour_at}
use Rattle.dine_rules.specs.Holdings.{EatsWithAll}
use Rattle.dine_rules.specs.declared.events.Shape.{Shape}
use Rattle.dine_rules.specs.declared.events.Shape.TheVariants.{Takes, Puts, Alone}
use Rattle.dine_rules.specs.Steps.{Step, after, shape_of, step_by, with_put}
use Rattle.dine_rules.specs.Steps as step
use Rattle.dine_rules.specs.Streams.{KeepsStreams}
use Rattle.dine_site.specs.Core.{SeenCore, Refines}
use Rattle.dine_site.specs.LinkNumbers.{link_to, link_from}
use Rattle.dine_site.specs.Places.{place_at}
use Rattle.dine_rules.specs.World.{WorldState, no_state, place_of, state_of, next_letter, step_of, world_after, start}
use Rattle.dine_rules.specs.Links.{queue_to}
use Rattle.dine_site.specs.NextEvent.{has_place}
use Rattle.dine_world.specs.WorldSites.{IsSiteOf, can_do, letters_in, next_in}
use Rattle.dine_world.specs.private.StepsOfSites.{SiteSteps, PutsAt, HasRoomAt, HasRoomFor, MovesLetters, TakesAllowed, has_failed, meets_no_breach, step_in, with_letter, without_next}
use Rattle.dine_world.specs.Worlds.{IsReached, IsWorldOf, AreLinksOf, AreSitesOf, SeenWorld, can_at, number_to}
use Rattle.dine_rules.proofs.shared.links.Across.{across}
use Rattle.dine_world.proofs.all_sites.CanHappen.{next_here}
use Rattle.dine_site.proofs.shared.one_site.SiteTests.{take_is}
use Rattle.dine_rules.proofs.shared.links.NextLetters.{reached_allowed}
use Rattle.dine_site.proofs.shared.one_site.Stands.{place_is}
use Rattle.dine_rules.proofs.shared.links.WorldStreams.{IsStepOf, WorldKeeps, event_is_step, event_keeps, events_then, reached_kept}
use Rattle.dine_rules.proofs.shared.links.EatersApart.{eats_with_all}
use Rattle.dine_rules.proofs.shared.links.Links.{link_letters}
use Rattle.dine_world.proofs.all_sites.LinkNumbers.{from_is_to, number_from, to_in_range}
use Rattle.dine_world.proofs.all_sites.Shapes.{Does, does, step_alike}
use Rattle.dine_world.proofs.all_sites.LinkSteps.{links-put, links-same, links-taken}

-- a world_site that can do something is there
pub world_site_there : (links : List (List Letter)) (kind : EventKind) (o : Option WorldSite) → can_at links kind o ≡ true → (world_site : WorldSite) × (o ≡ Some world_site) × (can_do links world_site.core kind ≡ true)
world_site_there links kind None h = absurd (false≢true h)
world_site_there links kind (Some world_site) h = (world_site, refl, h)

module _ (plan : SeenPlan) (world : WorldState) (seen : SeenWorld) (stands : IsWorldOf plan world seen) where
  abbrev pub is_plan : IsPlan plan
  is_plan = stands.reached.is_plan

  pub kept : WorldKeeps plan world
  kept = reached_kept plan stands.reached.events world stands.reached.is_plan stands.reached.reaches

  module _ (s : ℕ) (is_site : s < site_count plan) (past : WorldSite) where
    abbrev world_site : WorldSite
    world_site = get_or seen.sites s past

    abbrev core : SeenCore
    core = world_site.core

    site_is : core.site ≡ s
    site_is = stands.sites.site s past is_site

    core_stands : IsSiteOf plan (state_of world s) world_site
    core_stands = stands.sites.stands s past is_site

    pub keeps_here : KeepsStreams plan core.site (state_of world s)
    keeps_here = subst (λ (x : ℕ). KeepsStreams plan x (state_of world s)) (sym site_is) (kept.keeps s is_site)

    pub eats_here : EatsWithAll plan core.site (state_of world s)
    eats_here = subst (λ (x : ℕ). EatsWithAll plan x (state_of world s)) (sym site_is) (eats_with_all plan stands.reached.events world is_plan stands.reached.reaches s is_site)

    -- the places of the core are those of the site
    pub as_many_places : length core.places ≡ length (edges_of plan s)
    as_many_places = core_stands.core.degree ∙ (kept.keeps s is_site).every_place

    -- the numbers of the links at a place
    pub to_is : (i : ℕ) → i < length core.places → link_to core.site (place_at core i) ≡ number_to plan s i
    to_is i h = ap (link_to core.site) (place_is plan (state_of world s) core core_stands.core i h) ∙ ap (λ (x : ℕ). number_to plan x i) site_is

    pub from_is : (i : ℕ) → i < length core.places → link_from core.site (place_at core i) ≡ number_from plan s i
    from_is i h = ap (link_from core.site) (place_is plan (state_of world s) core core_stands.core i h) ∙ ap (λ (x : ℕ). number_from plan x i) site_is

    -- the next letter of the link is that which was put and not taken
    pub next_is : (i : ℕ) → i < length core.places → next_in seen.links core i ≡ next_letter plan world s i
    next_is i h = next_here plan world seen stands core (subst (λ (x : ℕ). Refines plan (state_of world x) core) (sym site_is) core_stands.core) (omega (arith, is_site, site_is)) i h
        ∙ ap (λ (x : ℕ). next_letter plan world x i) site_is

    -- what the step does, by the letters that lie next
    abbrev pub DoesHere : Shape → Step → Type 0
    DoesHere = Does plan s (state_of world s) (next_letter plan world s)

    -- a letter that is taken is in turn
    in_turn : (shape : Shape) (one : Step) → has_place core shape ≡ true → DoesHere shape one → TakesAllowed seen.links core shape
    in_turn (Takes i) one there (l, next, is) =
        let within : i < length core.places = ltb-true i (length core.places) there in
        let allowed = reached_allowed plan stands.reached.events world s i is_plan stands.reached.reaches is_site (omega (arith, within, as_many_places)) l next in
        ap (meets_no_breach core i) (next_is i within ∙ next) ∙ take_is plan (state_of world s) core core_stands.core keeps_here i within l
        ∙ ap (λ (x : ℕ). is_allowed plan x (state_of world s) i l) site_is ∙ allowed
    in_turn (Puts i) one there did = tt
    in_turn Alone one there did = tt

    -- the outcome of the last meal is that of its job
    outcome_is : has_failed world_site.outcomes core.ate ≡ meal_fails plan s (state_of world s)
    outcome_is = ap₂ (λ (outcomes : List Bool) (k : ℕ). has_failed outcomes k) core_stands.outcomes core_stands.core.ate
        ∙ get_or-map (λ (job : SeenJob). job.fails) (jobs_of plan core.site) ((state_of world s).ate - 1) no_job
        ∙ ap (λ (x : ℕ). meal_fails plan x (state_of world s)) site_is

    -- the step of the event, by the outcomes and the links as by the whole lists
    pub step_is : (kind : EventKind) → can_do seen.links core kind ≡ true → step_in world_site.outcomes seen.links core kind ≡ step_of plan world s kind
    step_is kind can = ap (λ (failed : Bool). step_by failed (next_in seen.links core) kind) outcome_is
        ∙ step_alike (meal_fails plan s (state_of world s)) kind (next_in seen.links core) (next_letter plan world s)
        (λ i takes. next_is i (ltb-true i (length core.places) (subst (λ (shape : Shape). has_place core shape ≡ true) takes (and_parts _ _ can).0)))

    abbrev state : LocalState
    state = state_of world s

    -- a place of the core is one of the site
    at_site : (i : ℕ) → i < length core.places → i < length (edges_of plan s)
    at_site i h = omega (arith, h, as_many_places)

    -- the links after a letter is put at place i
    after_put : (i : ℕ) (l : Letter) (next : LocalState) → i < length core.places → next ≡ with_put i l state → AreLinksOf plan (slice_set world s next) (with_letter seen.links (number_from plan s i) l)
    after_put i l next h is = links-put plan is_plan world kept s is_site next i (at_site i h) (record (traffic_at state i) { put = (traffic_at state i).put ++ l ∷ [] }) (ap (λ (x : LocalState). x.traffic) is) l refl refl seen.links stands.links

    -- there is room for the letter: with it the link has at most four
    room_at : (i : ℕ) (l : Letter) (next : LocalState) → i < length core.places → next ≡ with_put i l state → WorldKeeps plan (slice_set world s next) → HasRoomAt seen.links core i
    room_at i l next h is keeps =
        let over = across plan s i is_plan (at_site i h) in
        let t : ℕ = neighbour_at plan s i in
        let j : ℕ = place_of plan t (edge_at plan s i) in
        let n : ℕ = number_from plan s i in
        let same : n ≡ number_to plan t j = from_is_to plan s i t j over in
        let in_range : n < length seen.links = omega (arith, same, to_in_range plan t j is_plan over.within, stands.links.count) in
        let letters : letters_in seen.links n ++ l ∷ [] ≡ queue_to plan (slice_set world s next) t j = sym (get_or-set_same seen.links n (letters_in seen.links n ++ l ∷ []) [] in_range) ∙ ap (letters_in (with_letter seen.links n l)) same ∙ (after_put i l next h is).letters t j over.is_site over.within in
        let few : length (letters_in seen.links n) < 4 = omega (arith, length_push (letters_in seen.links n) l, ap length letters, link_letters plan is_plan (slice_set world s next) keeps t j over.is_site over.within) in
        subst (λ (x : ℕ). (x < length seen.links) × (length (letters_in seen.links x) < 4)) (sym (from_is i h)) (in_range, few)

    -- so the links stand after a put that the site did
    put_done : (i : ℕ) (one : Step) (links : List (List Letter)) → i < length core.places → PutsAt plan state core i one seen.links links → AreLinksOf plan (slice_set world s (after plan s state one)) links
    put_done i one links h (l, is, moves) =
        subst (AreLinksOf plan (slice_set world s (after plan s state one))) (ap (λ (x : ℕ). with_letter seen.links x l) (sym (from_is i h)) ∙ sym moves)
        (after_put i l (after plan s state one) h (ap (λ (x : ℕ). after plan x state one) (sym site_is) ∙ is))

    -- and after a take
    taken_done : (i : ℕ) (l : Letter) (links : List (List Letter)) → i < length core.places → links ≡ without_next seen.links (link_to core.site (place_at core i)) → AreLinksOf plan (slice_set world s (after plan s state (step.Take i l))) links
    taken_done i l links h moves =
        subst (AreLinksOf plan (slice_set world s (after plan s state (step.Take i l)))) (ap (without_next seen.links) (sym (to_is i h)) ∙ sym moves)
        (links-taken plan is_plan world kept s is_site (after plan s state (step.Take i l)) i (at_site i h) (record (traffic_at state i) { taken = (traffic_at state i).taken ++ l ∷ [] }) refl l refl refl seen.links stands.links)

    -- no letter moves
    quiet_done : (one : Step) (links : List (List Letter)) → (after plan s state one).traffic ≡ state.traffic → links ≡ seen.links → AreLinksOf plan (slice_set world s (after plan s state one)) links
    quiet_done one links same moves = subst (AreLinksOf plan (slice_set world s (after plan s state one))) (sym moves) (links-same plan is_plan world kept s is_site (after plan s state one) same seen.links stands.links)

    -- what the step does to the links is what the whole lists say
    links_done : (shape : Shape) (one : Step) (links : List (List Letter)) → has_place core shape ≡ true → DoesHere shape one → MovesLetters plan state core shape one seen.links links
        → AreLinksOf plan (slice_set world s (after plan s state one)) links
    links_done (Takes i) one links there (l, next, is) moves = subst (λ (x : Step). AreLinksOf plan (slice_set world s (after plan s state x)) links) is (taken_done i l links (ltb-true i (length core.places) there) moves)
    links_done (Puts i) one links there did moves = put_done i one links (ltb-true i (length core.places) there) moves
    links_done Alone one links there did moves = quiet_done one links did moves

    -- there is room for what the event puts
    room_for : (shape : Shape) (one : Step) → has_place core shape ≡ true → DoesHere shape one → WorldKeeps plan (slice_set world s (after plan s state one)) → HasRoomFor seen.links core shape
    room_for (Takes i) one there did keeps = tt
    room_for (Puts i) one there (l, is) keeps = room_at i l (after plan s state one) (ltb-true i (length core.places) there) is keeps
    room_for Alone one there did keeps = tt

    module _ (kind : EventKind) (new : WorldState) (happens : world_after plan world (record { site = s; kind = kind }) ≡ Some new) where
      abbrev e : Event
      e = record { site = s; kind = kind }

      -- the event is one step of the site
      done : IsStepOf plan world e new
      done = event_is_step plan world e new happens

      did : DoesHere (shape_of kind) done.step
      did = does plan s (state_of world s) (meal_fails plan s (state_of world s)) (next_letter plan world s) kind done.step done.step_is

      abbrev next_state : LocalState
      next_state = after plan s (state_of world s) done.step

      new_kept : WorldKeeps plan new
      new_kept = event_keeps plan world new e is_plan kept happens

      -- the new state is one that events reach
      pub reached_next : IsReached plan new
      reached_next = record {
        is_plan = is_plan;
        events = stands.reached.events ++ e ∷ [];
        reaches = events_then plan (start plan) world new stands.reached.events e stands.reached.reaches happens;
      }

      -- the sites stand where this site does
      sites_next : (changed : WorldSite) → changed.core.site ≡ s → IsSiteOf plan next_state changed → AreSitesOf plan new (slice_set seen.sites s changed)
      sites_next changed site world_site_stands = record {
        count = length-set seen.sites s changed ∙ stands.sites.count;
        site = λ t d is_t. elim (cases_eq t s) [
          | inl same ↦ ap (λ (x : ℕ). (get_or (slice_set seen.sites s changed) x d).core.site) same ∙ ap (λ (x : WorldSite). x.core.site) (get_or-set_same seen.sites s changed d in_range) ∙ site ∙ sym same
          | inr other ↦ ap (λ (x : WorldSite). x.core.site) (get_or-set_other seen.sites s t changed d other) ∙ stands.sites.site t d is_t
        ];
        stands = λ t d is_t. elim (cases_eq t s) [
          | inl same ↦ subst (λ (x : ℕ). IsSiteOf plan (state_of new x) (get_or (slice_set seen.sites s changed) x d)) (sym same)
              (subst (IsSiteOf plan (state_of new s)) (sym (get_or-set_same seen.sites s changed d in_range)) (subst (λ (x : LocalState). IsSiteOf plan x changed) (sym here) world_site_stands))
          | inr other ↦ subst (IsSiteOf plan (state_of new t)) (sym (get_or-set_other seen.sites s t changed d other))
              (subst (λ (x : LocalState). IsSiteOf plan x (get_or seen.sites t d)) (sym (elsewhere t other)) (stands.sites.stands t d is_t))
        ];
      } where
        in_range : s < length seen.sites
        in_range = omega (arith, is_site, stands.sites.count)

        here : state_of new s ≡ next_state
        here = ap (λ (w : WorldState). state_of w s) done.changes ∙ get_or-set_same world s next_state no_state (omega (arith, is_site, kept.sites))

        elsewhere : (t : ℕ) → t ≢ s → state_of new t ≡ state_of world t
        elsewhere t other = ap (λ (w : WorldState). state_of w t) done.changes ∙ get_or-set_other world s t next_state no_state other

      -- there is room for what it puts
      pub has_room : can_do seen.links core kind ≡ true → HasRoomFor seen.links core (shape_of kind)
      has_room can = room_for (shape_of kind) done.step (and_parts _ _ can).0 did (subst (WorldKeeps plan) done.changes new_kept)

      -- what it takes is in turn
      pub takes_allowed : can_do seen.links core kind ≡ true → TakesAllowed seen.links core (shape_of kind)
      takes_allowed can = in_turn (shape_of kind) done.step (and_parts _ _ can).0 did

      -- where the letters went
      pub letters_moved : (changed : WorldSite) (links : List (List Letter)) → can_do seen.links core kind ≡ true → SiteSteps kind world_site changed seen.links links
          → (one : Step) × MovesLetters plan (state_of world s) core (shape_of kind) one seen.links links
      letters_moved changed links can site_does =
          let done_here = site_does plan state done.step keeps_here eats_here core_stands (step_is kind can ∙ done.step_is) in
          (done.step, done_here.letters)

      -- the world stands for the new state, with the site and the links that the step leaves
      pub world_next : (changed : WorldSite) (links : List (List Letter)) → can_do seen.links core kind ≡ true → SiteSteps kind world_site changed seen.links links
          → IsWorldOf plan new (record { sites = slice_set seen.sites s changed; links = links; edges = seen.edges; bound = seen.bound })
      world_next changed links can site_does =
          let done_here = site_does plan state done.step keeps_here eats_here core_stands (step_is kind can ∙ done.step_is) in
          record {
            reached = reached_next;
            sites = sites_next changed (done_here.site ∙ site_is) (subst (λ (x : ℕ). IsSiteOf plan (after plan x state done.step) changed) site_is done_here.stands);
            links = subst (λ (w : WorldState). AreLinksOf plan w links) (sym done.changes) (links_done (shape_of kind) done.step links (and_parts _ _ can).0 did done_here.letters);
            edges = stands.edges;
            bound = stands.bound;
          }
