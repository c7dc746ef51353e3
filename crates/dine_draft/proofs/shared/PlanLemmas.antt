-- What is not refused is a plan.
use Rattle.std.proofs.Common.{◌≡◌, ◌≢◌, ℕ, ◌-◌, ◌<◌, ◌≤◌, ◌==◌, nat_lt, Bool, true, false, min, max, List, [], ◌++◌, map, length, get_or, Option, Some, None, option_map, refl, sym, ap, subst, ◌∙◌, arith}
use Rattle.std.specs.List.{position}
use Rattle.std.specs.Option.{option_or}
use Rattle.std.specs.Str.{bytes_eq}
use Rattle.std.proofs.lemmas.Bool.{false≢true, ltb-false, leb-false, eqb-false, eq-eqb, or_parts, not-false}
use Rattle.std.proofs.lemmas.List.{get_or-map, ext_get_or, length-map}
use Rattle.std.proofs.lemmas.Slice.Eq.{bytes_eq-Decides}
use Rattle.dine_graph.specs.Plan.{SeenSite, IsPlan, no_site, no_job, is_name}
use Rattle.dine_graph.specs.declared.limits.TheConstants.{MAX_EDGES, MAX_SITES, MAX_TURNS}
use Rattle.dine_token.specs.declared.limits.TheConstants.{MAX_JOBS, MAX_NUMBER}
use Rattle.dine_token.specs.Values.{amount_of}
use Rattle.dine_draft.specs.Draft.{SeenDraft, names_of, ends_of_edge, plan_of, value_of_edge}
use Rattle.dine_draft.specs.Refusals.{first_some, draft_refusals, first_of_draft, on, site_refusals, end_refusals, pair_refusals, act_refusals, first_twice, same_ends, is_unnamed, is_long, is_large, has_bad_name, has_many_jobs, has_many_turns, has_unknown_end, joined_by, is_loop, has_large_act, has_large_value}
use Rattle.dine_draft.specs.declared.drafts.DraftEdge.{DraftEdge}
use Rattle.dine_draft.specs.declared.plan_fault.PlanFault.{PlanFault}
use Rattle.dine_graph.proofs.shared.ListLemmas.{position_none_at}
use Rattle.dine_draft.proofs.shared.ListLemmas.{list_any_false_at, first_twice_none_apart, first_some-append}

pub option_or_none : {A : Type 0} (a b : Option A) → option_or a b ≡ None → (a ≡ None) × (b ≡ None)
option_or_none None b h = (refl, h)
option_or_none (Some x) b h = absurd (let no : Some x ≡ None = h in cc)

pub option_map_none : {A B : Type 0} (f : A → B) (o : Option A) → option_map f o ≡ None → o ≡ None
option_map_none f None h = refl
option_map_none f (Some x) h = absurd (let no : Some (f x) ≡ None = h in cc)

on_none : (b : Bool) (fault : PlanFault) → on b fault ≡ None → b ≡ false
on_none true fault h = absurd (let no : Some fault ≡ None = h in cc)
on_none false fault h = refl

-- what holds of sites that are not refused
pub record AreSites (most : ℕ) (sites : List SeenSite) : Type 0 where
  pub named : position has_bad_name sites ≡ None
  pub apart : first_twice bytes_eq [] (names_of sites) ≡ None
  pub some : (length sites == 0) ≡ false
  pub few : nat_lt MAX_SITES (length sites) ≡ false
  pub few_jobs : position (has_many_jobs most) sites ≡ None
  pub few_turns : position has_many_turns sites ≡ None

pub are_sites : (most : ℕ) (sites : List SeenSite) → first_some (site_refusals most sites) ≡ None → AreSites most sites
unfolding site_refusals
are_sites most sites h =
    let a = option_or_none _ _ h in
    let b = option_or_none _ _ a.1 in
    let c = option_or_none _ _ b.1 in
    let d = option_or_none _ _ c.1 in
    let e = option_or_none _ _ d.1 in
    let f = option_or_none _ _ e.1 in
    record {
      named = option_map_none _ _ a.0;
      apart = option_map_none _ _ b.0;
      some = on_none _ _ c.0;
      few = on_none _ _ d.0;
      few_jobs = option_map_none _ _ e.0;
      few_turns = option_map_none _ _ f.0;
    }

-- what holds of the ends of edges that are not refused
pub record AreEnds (n : ℕ) (edges : List DraftEdge) : Type 0 where
  pub known : position (has_unknown_end n) edges ≡ None
  pub no_loop : position (is_loop n) edges ≡ None

pub are_ends : (n : ℕ) (edges : List DraftEdge) → first_some (end_refusals n edges) ≡ None → AreEnds n edges
unfolding end_refusals
are_ends n edges h =
    let a = option_or_none _ _ h in
    let b = option_or_none _ _ a.1 in
    record { known = option_map_none _ _ a.0; no_loop = option_map_none _ _ b.0 }

-- what holds of pairs that are not refused
pub record ArePairs (pairs : List (Option (ℕ × ℕ))) : Type 0 where
  pub apart : first_twice same_ends None pairs ≡ None
  pub few : nat_lt MAX_EDGES (length pairs) ≡ false

pub are_pairs : (pairs : List (Option (ℕ × ℕ))) → first_some (pair_refusals pairs) ≡ None → ArePairs pairs
unfolding pair_refusals
are_pairs pairs h =
    let a = option_or_none _ _ h in
    let b = option_or_none _ _ a.1 in
    record { apart = option_map_none _ _ a.0; few = on_none _ _ b.0 }

-- what holds of acts and values that are not refused
pub record AreActs (d : SeenDraft) : Type 0 where
  pub small_acts : position has_large_act d.sites ≡ None
  pub small_values : position has_large_value d.edges ≡ None

pub are_acts : (d : SeenDraft) → first_some (act_refusals d) ≡ None → AreActs d
unfolding act_refusals
are_acts d h =
    let a = option_or_none _ _ h in
    let b = option_or_none _ _ a.1 in
    let c = option_or_none _ _ b.1 in
    record { small_acts = option_map_none _ _ b.0; small_values = option_map_none _ _ c.0 }

-- what is read past the end of a list of edges
no_edge : DraftEdge
no_edge = record { a = 0; b = 0; value = 0 }

site_few_jobs : (most : ℕ) (site : SeenSite) → has_many_jobs most site ≡ false → length site.jobs ≤ most
unfolding has_many_jobs
site_few_jobs most site h = ltb-false most (length site.jobs) h

site_few_turns : (site : SeenSite) (k : ℕ) → has_many_turns site ≡ false → 1 ≤ k → k ≤ length site.jobs → (get_or site.jobs (k - 1) no_job).turns ≤ MAX_TURNS
unfolding has_many_turns
site_few_turns site k h low high = ltb-false MAX_TURNS _ (list_any_false_at is_long site.jobs (k - 1) no_job h (omega arith))

site_small_acts : (site : SeenSite) (k : ℕ) → has_large_act site ≡ false → 1 ≤ k → k ≤ length site.jobs → amount_of (get_or site.jobs (k - 1) no_job).act ≤ MAX_NUMBER
unfolding has_large_act
site_small_acts site k h low high = ltb-false MAX_NUMBER _ (list_any_false_at is_large site.jobs (k - 1) no_job h (omega arith))

small_value : (edge : DraftEdge) → has_large_value edge ≡ false → edge.value ≤ MAX_NUMBER
unfolding has_large_value
small_value edge h = ltb-false MAX_NUMBER edge.value h

site_named : (site : SeenSite) → has_bad_name site ≡ false → is_name site.name ≡ true
unfolding has_bad_name
site_named site h = not-false (is_name site.name) (or_parts _ _ h).0

site_jobs_named : (site : SeenSite) (k : ℕ) → has_bad_name site ≡ false → 1 ≤ k → k ≤ length site.jobs → is_name (get_or site.jobs (k - 1) no_job).name ≡ true
unfolding has_bad_name
site_jobs_named site k h low high = not-false _ (list_any_false_at is_unnamed site.jobs (k - 1) no_job (or_parts _ _ h).1 (omega arith))

same_bytes : (a b : List ℕ) → a ≡ b → bytes_eq b a ≡ true
same_bytes a b same = (bytes_eq-Decides b a).1 (sym same)

names_apart : (sites : List SeenSite) (s t : ℕ) → first_twice bytes_eq [] (names_of sites) ≡ None → s < t → t < length sites → (get_or sites s no_site).name ≢ (get_or sites t no_site).name
names_apart sites s t apart before within same =
    let names = names_of sites in
    let long : length names ≡ length sites = length-map sites (λ (site : SeenSite). site.name) in
    let at : (i : ℕ) → i < length sites → get_or names i [] ≡ (get_or sites i no_site).name = λ i h. get_or-map (λ (site : SeenSite). site.name) sites i no_site [] h in
    false≢true (sym (first_twice_none_apart bytes_eq [] names s t apart before (omega arith)) ∙ same_bytes _ _ (at s (omega arith) ∙ same ∙ sym (at t within)))

-- the two sites that an edge joins whose ends are known
pub joins_known : (n : ℕ) (edge : DraftEdge) → has_unknown_end n edge ≡ false → joined_by n edge ≡ Some (ends_of_edge edge)
unfolding joined_by
joins_known n edge known = rw known refl

-- an edge that is no loop and has known ends joins two sites
ends_ordered : (n : ℕ) (edge : DraftEdge) → has_unknown_end n edge ≡ false → is_loop n edge ≡ false → (ends_of_edge edge).0 < (ends_of_edge edge).1
unfolding ends_of_edge is_loop
ends_ordered n edge known h =
    let differ : min edge.a edge.b ≢ max edge.a edge.b = eqb-false _ _ (rw (joins_known n edge known) at h) in
    omega arith

ends_within : (n : ℕ) (edge : DraftEdge) → has_unknown_end n edge ≡ false → (ends_of_edge edge).1 < n
unfolding ends_of_edge has_unknown_end
ends_within n edge h =
    let parts = or_parts _ _ h in
    let a = leb-false n edge.a parts.0 in
    let b = leb-false n edge.b parts.1 in
    omega arith

same_pair : (a b : ℕ × ℕ) → a ≡ b → same_ends (Some b) (Some a) ≡ true
same_pair a b same = rw (eq-eqb b.0 a.0 (ap (λ p. p.0) (sym same)), eq-eqb b.1 a.1 (ap (λ p. p.1) (sym same)))

-- edges whose ends are known join the pairs of their ends
pub join_known : (n : ℕ) (edges : List DraftEdge) → position (has_unknown_end n) edges ≡ None → map (joined_by n) edges ≡ map Some (map ends_of_edge edges)
join_known n edges known =
    let ends = map ends_of_edge edges in
    let long : length ends ≡ length edges = length-map edges ends_of_edge in
    let joined : length (map (joined_by n) edges) ≡ length edges = length-map edges (joined_by n) in
    let pairs : length (map Some ends) ≡ length ends = length-map ends Some in
    ext_get_or None _ _ (omega arith)
    (λ i h.
    let within : i < length edges = omega arith in
    rw (get_or-map (joined_by n) edges i no_edge None within, get_or-map Some ends i (0, 0) None (omega arith), get_or-map ends_of_edge edges i no_edge (0, 0) within)
    (joins_known n (get_or edges i no_edge) (position_none_at (has_unknown_end n) edges i no_edge known within)))

pairs_apart : (pairs : List (ℕ × ℕ)) (e f : ℕ) → first_twice same_ends None (map Some pairs) ≡ None → e < f → f < length pairs → get_or pairs e (0, 0) ≢ get_or pairs f (0, 0)
pairs_apart pairs e f apart before within same =
    let long : length (map Some pairs) ≡ length pairs = length-map pairs Some in
    false≢true (sym (rw (get_or-map Some pairs e (0, 0) None (omega arith), get_or-map Some pairs f (0, 0) None within) at (first_twice_none_apart same_ends None (map Some pairs) e f apart before (omega arith))) ∙ same_pair _ _ same)

-- sites, ends and pairs that are not refused make a plan
pub is_plan : (d : SeenDraft) → 1 ≤ d.version → d.version ≤ 2 → d.most_jobs ≤ MAX_JOBS → AreSites d.most_jobs d.sites → AreEnds (length d.sites) d.edges → ArePairs (map (joined_by (length d.sites)) d.edges) → AreActs d → IsPlan (plan_of d)
is_plan d first_version last_version small are ends pairs acts =
    let sites = d.sites in
    let edges = d.edges in
    let n = length sites in
    let edge_count : length (map ends_of_edge edges) ≡ length edges = length-map edges ends_of_edge in
    let joined : length (map (joined_by n) edges) ≡ length edges = length-map edges (joined_by n) in
    let some = eqb-false _ _ are.some in
    let few = ltb-false MAX_SITES _ are.few in
    let few_edges = ltb-false MAX_EDGES _ pairs.few in
    record {
      first_version = first_version;
      last_version = last_version;
      has_site = omega arith;
      few_sites = few;
      few_edges = omega arith;
      few_jobs = λ s h.
          let few : length (get_or sites s no_site).jobs ≤ d.most_jobs = site_few_jobs d.most_jobs _ (position_none_at (has_many_jobs d.most_jobs) sites s no_site are.few_jobs h) in
          omega (arith, few, small);
      few_turns = λ s k h low high. site_few_turns _ k (position_none_at has_many_turns sites s no_site are.few_turns h) low high;
      small_acts = λ s k h low high. site_small_acts _ k (position_none_at has_large_act sites s no_site acts.small_acts h) low high;
      named = λ s h. site_named _ (position_none_at has_bad_name sites s no_site are.named h);
      jobs_named = λ s k h low high. site_jobs_named _ k (position_none_at has_bad_name sites s no_site are.named h) low high;
      names_differ = λ s t before h. names_apart sites s t are.apart before h;
      ordered = λ e h.
          let within : e < length edges = omega arith in
          subst (λ (x : ℕ × ℕ). x.0 < x.1) (sym (get_or-map ends_of_edge edges e no_edge (0, 0) within)) (ends_ordered n _ (position_none_at (has_unknown_end n) edges e no_edge ends.known within) (position_none_at (is_loop n) edges e no_edge ends.no_loop within));
      within = λ e h.
          let within : e < length edges = omega arith in
          subst (λ (x : ℕ × ℕ). x.1 < n) (sym (get_or-map ends_of_edge edges e no_edge (0, 0) within)) (ends_within n _ (position_none_at (has_unknown_end n) edges e no_edge ends.known within));
      edges_differ = λ e f before h. pairs_apart _ e f (rw (join_known n edges ends.known) at pairs.apart) before h;
      valued = length-map edges value_of_edge ∙ sym edge_count;
      small_values = λ e h.
          let within : e < length edges = omega arith in
          rw (get_or-map value_of_edge edges e no_edge 0 within) (small_value _ (position_none_at has_large_value edges e no_edge acts.small_values within));
    }

-- the first refusal of a draft is the first of the four groups that has one
pub first_of_groups : (d : SeenDraft) → first_of_draft d
    ≡ option_or (first_some (site_refusals d.most_jobs d.sites)) (option_or (first_some (end_refusals (length d.sites) d.edges)) (option_or (first_some (pair_refusals (map (joined_by (length d.sites)) d.edges))) (first_some (act_refusals d))))
unfolding first_of_draft draft_refusals
first_of_groups d =
    let n = length d.sites in
    let pairs = pair_refusals (map (joined_by n) d.edges) in
    let acts = act_refusals d in
    first_some-append (site_refusals d.most_jobs d.sites) (end_refusals n d.edges ++ (pairs ++ acts))
    ∙ ap (option_or (first_some (site_refusals d.most_jobs d.sites)))
    (first_some-append (end_refusals n d.edges) (pairs ++ acts) ∙ ap (option_or (first_some (end_refusals n d.edges))) (first_some-append pairs acts))

-- a draft that is not refused has a plan
pub plan_of_fine : (d : SeenDraft) → 1 ≤ d.version → d.version ≤ 2 → d.most_jobs ≤ MAX_JOBS → first_of_draft d ≡ None → IsPlan (plan_of d)
plan_of_fine d first_version last_version small fine =
    let sites = option_or_none _ _ (sym (first_of_groups d) ∙ fine) in
    let ends = option_or_none _ _ sites.1 in
    let pairs = option_or_none _ _ ends.1 in
    is_plan d first_version last_version small (are_sites _ _ sites.0) (are_ends _ _ ends.0) (are_pairs _ pairs.0) (are_acts _ pairs.1)
