-- The parts of a world before its first event, and that they represent the start.
use Rattle.std.proofs.Common.{◌≡◌, ℕ, zero, suc, ◌+◌, ◌*◌, ◌<◌, ◌≤◌, List, [], ◌∷◌, ◌++◌, All, length, map, sum, get_or, drop, slice_get, slice_index_or, Some, None, refl, sym, ◌∙◌, ap, subst, inl, inr, arith}
use Rattle.std.specs.List.{range_with_len}
use Rattle.std.proofs.lemmas.Bool.{cases_eq}
use Rattle.std.proofs.lemmas.List.{length-append}
use Rattle.std.proofs.lemmas.List.FromFn.{map-range_with_len_more}
use Rattle.std.proofs.lemmas.List.Sums.{sum_by_push}
use Rattle.std.proofs.lemmas.Option.{get_or_from_slice_get, slice_get-get_or, slice_get_within, slice_get_past}
use Rattle.std.proofs.Math.ListN.{get_or-append}
use Rattle.std.proofs.Math.Seq.{get_or-append_seam}
use Rattle.dine_token.specs.declared.limits.TheConstants.{MAX_JOBS}
use Rattle.dine_graph.specs.Plan.{SeenPlan, IsPlan, site_count, edge_count, edges_of, job_count, ends_of, lo_of, hi_of}
use Rattle.dine_rules.specs.declared.letters.Letter.{Letter}
use Rattle.dine_world.specs.declared.world.sites.WorldSite.{WorldSite}
use Rattle.dine_world.specs.declared.world.EdgeEnds.{EdgeEnds}
use Rattle.dine_rules.specs.Local.{LocalState, Traffic, no_traffic, traffic_at, start_of, edge_at, neighbour_at}
use Rattle.dine_site.specs.Core.{Refines}
use Rattle.dine_world.specs.WorldSites.{IsSiteOf, letters_in}
use Rattle.dine_world.specs.private.StepsOfSites.{IsNotEating}
use Rattle.dine_rules.specs.World.{WorldState, no_state, state_of, start, place_of, put_to}
use Rattle.dine_world.specs.Worlds.{SeenWorld, AreSitesOf, AreLinksOf, IsReached, IsWorldOf, number_to, ends_seen}
use Rattle.dine_rules.specs.Bound.{bound_of, meals_due}
use Rattle.dine_rules.specs.Links.{queue_to}
use Rattle.dine_rules.proofs.shared.links.Across.{place_of-edge_at, across}
use Rattle.dine_rules.proofs.shared.one_site.Site.{no_traffic_yet}
use Rattle.dine_rules.proofs.shared.links.WorldStreams.{reached_kept, start_state}

-- ---- edges and sums

-- an edge that stands at a place of the site is found there
place_is : (plan : SeenPlan) (s e place : ℕ) → slice_get (edges_of plan s) place ≡ Some e → place_of plan s e ≡ place
place_is plan s e place at =
    let is : edge_at plan s place ≡ e = get_or_from_slice_get (edges_of plan s) place e 0 at in
    ap (place_of plan s) (sym is) ∙ place_of-edge_at plan s place (slice_get_within (edges_of plan s) place e at)

-- ends with the same four numbers are the same
same_ends : (low high p q a b i j : ℕ) → low ≡ a → high ≡ b → p ≡ i → q ≡ j → ◌≡◌ {A = EdgeEnds} (record { lower = low; lower_place = p; higher = high; higher_place = q }) (record { lower = a; lower_place = i; higher = b; higher_place = j })
same_ends low high p q a b i j low_is high_is p_is q_is = cc

-- the ends of an edge, with the places where it stands
pub ends_are : (plan : SeenPlan) (e : ℕ) (ends : ℕ × ℕ) (p q : ℕ) → ends ≡ ends_of plan e → slice_get (edges_of plan ends.0) p ≡ Some e → slice_get (edges_of plan ends.1) q ≡ Some e
    → ◌≡◌ {A = EdgeEnds} (record { lower = ends.0; lower_place = p; higher = ends.1; higher_place = q }) (ends_seen plan e)
ends_are plan e ends p q is at_lower at_higher =
    let low : ends.0 ≡ lo_of plan e = ap (λ (x : ℕ × ℕ). x.0) is in
    let high : ends.1 ≡ hi_of plan e = ap (λ (x : ℕ × ℕ). x.1) is in
    same_ends ends.0 ends.1 p q (lo_of plan e) (hi_of plan e) (place_of plan (lo_of plan e) e) (place_of plan (hi_of plan e) e) low high
    (sym (place_is plan ends.0 e p at_lower) ∙ ap (λ (s : ℕ). place_of plan s e) low) (sym (place_is plan ends.1 e q at_higher) ∙ ap (λ (s : ℕ). place_of plan s e) high)

-- a list of the ends of edges grows by those of the next edge
pub ends_more : (plan : SeenPlan) (ends new : List EdgeEnds) (e : ℕ) (next : EdgeEnds) → ends ≡ map (ends_seen plan) (range_with_len 0 e) → next ≡ ends_seen plan e → new ≡ ends ++ next ∷ []
    → new ≡ map (ends_seen plan) (range_with_len 0 (e + 1))
ends_more plan ends new e next is next_is new_is =
    new_is ∙ ap (λ (xs : List EdgeEnds). xs ++ next ∷ []) is ∙ ap (λ (x : EdgeEnds). map (ends_seen plan) (range_with_len 0 e) ++ x ∷ []) next_is
    ∙ sym (map-range_with_len_more (ends_seen plan) 0 e e (omega arith))

-- a sum over the first numbers grows by the next term
pub sum_more : (f : ℕ → ℕ) (n total : ℕ) → total ≡ sum (map f (range_with_len 0 n)) → total + f n ≡ sum (map f (range_with_len 0 (n + 1)))
sum_more f n total is = omega (arith, is, ap sum (map-range_with_len_more f 0 n n (omega arith)), sum_by_push (λ x. x) (map f (range_with_len 0 n)) (f n))

-- at an edge: four for each meal due at its ends, and eight more
pub letters_more : (plan : SeenPlan) (edge total low high : ℕ) → total ≡ sum (map (λ e. 4 * meals_due plan e + 8) (range_with_len 0 edge)) → low ≡ job_count plan (lo_of plan edge) → high ≡ job_count plan (hi_of plan edge)
    → total + (4 * (low + high) + 8) ≡ sum (map (λ e. 4 * meals_due plan e + 8) (range_with_len 0 (edge + 1)))
letters_more plan edge total low high is low_is high_is = omega (arith, low_is, high_is, sum_more (λ e. 4 * meals_due plan e + 8) edge total is)

-- at most twice MAX_JOBS meals are due at an edge
pub few_letters : (plan : SeenPlan) (edge low high : ℕ) → IsPlan plan → edge < edge_count plan → low ≡ job_count plan (lo_of plan edge) → high ≡ job_count plan (hi_of plan edge) → 4 * (low + high) + 8 ≤ 8 * MAX_JOBS + 8
few_letters plan edge low high is_plan within low_is high_is =
    let ordered = is_plan.ordered edge within in
    let is_site = is_plan.within edge within in
    omega (arith, low_is, high_is, is_plan.few_jobs (lo_of plan edge) (omega arith), is_plan.few_jobs (hi_of plan edge) is_site)

-- ---- lists that grow at their end

-- what holds of each element holds of those before the last
pub front_all : {A : Type 0} (P : A → Type 0) (all front : List A) (last : A) → all ≡ front ++ last ∷ [] → All P all → All P front
front_all P all front last is each = λ k d h.
    let of_all : All P (front ++ last ∷ []) = subst (All P) is each in
    subst P (get_or-append front (last ∷ []) d k h) (of_all k d (omega (arith, length-append front (last ∷ []))))

-- and of the last
pub last_all : {A : Type 0} (P : A → Type 0) (all front : List A) (last : A) → all ≡ front ++ last ∷ [] → All P all → P last
last_all P all front last is each =
    let of_all : All P (front ++ last ∷ []) = subst (All P) is each in
    subst P (get_or-append_seam front last [] last) (of_all (length front) last (omega (arith, length-append front (last ∷ []))))

-- what holds of each element and of one more holds of each with that one behind them
each_more : {A : Type 0} (P : ℕ → A → Type 0) (xs : List A) (x : A) (n : ℕ) → length xs ≡ n → ((i : ℕ) (past : A) → i < n → P i (get_or xs i past)) → P n x
    → (i : ℕ) (past : A) → i < n + 1 → P i (get_or (xs ++ x ∷ []) i past)
each_more P xs x n long each last i past within = elim (cases_eq i n) [
  | inl same ↦
      let end : i ≡ length xs = omega arith in
      subst (λ y. P i y) (sym (ap (λ (k : ℕ). get_or (xs ++ x ∷ []) k past) end ∙ get_or-append_seam xs x [] past)) (subst (λ (k : ℕ). P k x) (sym same) last)
  | inr other ↦
      let before : i < n = omega (arith, other) in
      subst (λ y. P i y) (sym (get_or-append xs (x ∷ []) past i (omega arith))) (each i past before)
]

-- a site before its first step
pub record IsNewSite (plan : SeenPlan) (s : ℕ) (world_site : WorldSite) : Type 0 where
  pub site : world_site.core.site ≡ s
  pub stands : IsSiteOf plan (start_of plan s) world_site
  pub not_eating : IsNotEating world_site

-- the first sites of the plan, before their first step
pub record AreFresh (plan : SeenPlan) (n : ℕ) (sites : List WorldSite) : Type 0 where
  pub count : length sites ≡ n
  pub each : (s : ℕ) (past : WorldSite) → s < n → IsNewSite plan s (get_or sites s past)

-- and one more site
pub fresh_more : (plan : SeenPlan) (n : ℕ) (sites new : List WorldSite) (world_site : WorldSite) → AreFresh plan n sites → IsNewSite plan n world_site → new ≡ sites ++ world_site ∷ [] → AreFresh plan (n + 1) new
fresh_more plan n sites new world_site so_far last is = subst (AreFresh plan (n + 1)) (sym is) (record {
  count = omega (arith, length-append sites (world_site ∷ []), so_far.count);
  each = each_more (IsNewSite plan) sites world_site n so_far.count so_far.each last;
})

-- and all of them stand for the start
pub fresh_stand : (plan : SeenPlan) (sites : List WorldSite) → AreFresh plan (site_count plan) sites → AreSitesOf plan (start plan) sites
fresh_stand plan sites fresh = record {
  count = fresh.count;
  site = λ s past h. (fresh.each s past h).site;
  stands = λ s past h. subst (λ (state : LocalState). IsSiteOf plan state (slice_index_or sites s past)) (sym (start_state plan s h)) (fresh.each s past h).stands;
}

-- ---- links with no letters

-- past the end or not, nothing lies in them
no_letters : (links : List (List Letter)) (n : ℕ) → All (λ (letters : List Letter). letters ≡ []) links → letters_in links n ≡ []
no_letters [] n empty = refl
no_letters (first ∷ links) zero empty = empty 0 [] (omega arith)
no_letters (first ∷ links) (suc n) empty = no_letters links n (λ k d h. empty (suc k) d (omega arith))

-- nothing was put or taken at any place of a site
no_traffic_at : (plan : SeenPlan) (s i : ℕ) → s < site_count plan → traffic_at (state_of (start plan) s) i ≡ no_traffic
no_traffic_at plan s i h = ap (λ (state : LocalState). traffic_at state i) (start_state plan s h) ∙ no_traffic_yet (edges_of plan s) i

-- so no letter lies in a link
no_queue : (plan : SeenPlan) (s i : ℕ) → IsPlan plan → s < site_count plan → i < length (edges_of plan s) → queue_to plan (start plan) s i ≡ []
no_queue plan s i is_plan is_site within =
    let there : ℕ = neighbour_at plan s i in
    let put : put_to plan (start plan) s i ≡ [] = ap (λ (traffic : Traffic). traffic.put) (no_traffic_at plan there (place_of plan there (edge_at plan s i)) (across plan s i is_plan within).is_site) in
    ap (λ (traffic : Traffic). drop (length traffic.taken) (put_to plan (start plan) s i)) (no_traffic_at plan s i is_site) ∙ put

-- empty links stand for the start
empty_stand : (plan : SeenPlan) (links : List (List Letter)) → IsPlan plan → length links ≡ 2 * edge_count plan → All (λ (letters : List Letter). letters ≡ []) links → AreLinksOf plan (start plan) links
empty_stand plan links is_plan count empty = record {
  count = count;
  letters = λ s i is_site within. no_letters links (number_to plan s i) empty ∙ sym (no_queue plan s i is_plan is_site within);
}

-- ---- the whole

-- the start is reached by an empty list of events
start_reached : (plan : SeenPlan) → IsPlan plan → IsReached plan (start plan)
start_reached plan is_plan = record { is_plan = is_plan; events = []; reaches = refl }

-- its parts make the world
pub opened : (plan : SeenPlan) (seen : SeenWorld) → IsPlan plan → AreSitesOf plan (start plan) seen.sites → length seen.links ≡ 2 * edge_count plan → All (λ (letters : List Letter). letters ≡ []) seen.links
    → seen.edges ≡ map (ends_seen plan) (range_with_len 0 (edge_count plan)) → seen.bound ≡ bound_of plan → IsWorldOf plan (start plan) seen
opened plan seen is_plan sites count empty edges bound = record {
  reached = start_reached plan is_plan;
  sites = sites;
  links = empty_stand plan seen.links is_plan count empty;
  edges = edges;
  bound = bound;
}

-- ---- a site of a world

-- each site has its state
world_long : (plan : SeenPlan) (world : WorldState) → IsReached plan world → length world ≡ site_count plan
world_long plan world reached = (reached_kept plan reached.events world reached.is_plan reached.reaches).sites

-- where there is no such site, there is no state
pub past_the_sites : (plan : SeenPlan) (world : WorldState) (seen : SeenWorld) (s : ℕ) → IsWorldOf plan world seen → length seen.sites ≤ s → slice_get world s ≡ None
past_the_sites plan world seen s stands past = slice_get_past world s (omega (arith, past, stands.sites.count, world_long plan world stands.reached))

-- and else it is the state of the site
pub a_state : (plan : SeenPlan) (world : WorldState) (seen : SeenWorld) (s : ℕ) → IsWorldOf plan world seen → s < length seen.sites → slice_get world s ≡ Some (state_of world s)
a_state plan world seen s stands within = slice_get-get_or world s no_state (omega (arith, within, stands.sites.count, world_long plan world stands.reached))

-- that the site represents
pub a_core : (plan : SeenPlan) (world : WorldState) (seen : SeenWorld) (s : ℕ) (world_site : WorldSite) → IsWorldOf plan world seen → s < length seen.sites → world_site ≡ get_or seen.sites s world_site → Refines plan (state_of world s) world_site.core
a_core plan world seen s world_site stands within is = (subst (IsSiteOf plan (state_of world s)) (sym is) (stands.sites.stands s world_site (omega (arith, within, stands.sites.count)))).core
