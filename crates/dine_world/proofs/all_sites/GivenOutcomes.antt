-- A plan with other outcomes of its meals: before the first step its sites, its bound and all else of its world are
-- those of the plan.
use Rattle.std.proofs.Common.{◌≡◌, ℕ, zero, suc, ◌+◌, ◌*◌, ◌-◌, ◌<◌, ◌≤◌, ◌==◌, Bool, false, List, [], ◌∷◌, length, map, sum, get_or, slice_get, unwrap_or, option_and_then, option_map, Vec, Global, Option, Some, None, refl, sym, ◌∙◌, ap, ap₂, subst, arith, if◌then◌else◌}
use Rattle.std.specs.List.{range_with_len}
use Rattle.std.proofs.lemmas.Option.{slice_get-map}
use Rattle.dine_token.specs.declared.act.Act.{Act}
use Rattle.dine_graph.specs.Plan.{SeenPlan, SeenSite, SeenJob, edges_of, edge_count, job_count, job_of, jobs_of, lo_of, hi_of, no_job, no_site, other_of, resigns, site_count, value_of}
use Rattle.dine_rules.specs.declared.phase.Phase.TheVariants.{Thinking}
use Rattle.dine_site.specs.declared.site.places.Place.{Place}
use Rattle.dine_site.specs.declared.site.places.ForkSlot.TheVariants.{Away, Here}
use Rattle.dine_rules.specs.Bound.{bound_of, meals_due}
use Rattle.dine_rules.specs.Local.{Traffic, edge_at, no_traffic, start_of, traffic_at}
use Rattle.dine_rules.specs.Holdings.{forks_held}
use Rattle.dine_rules.specs.Outcomes.{jobs_with, sites_with, with_outcomes}
use Rattle.dine_site.specs.Core.{SeenCore, Refines, kept_of, token_kept}
use Rattle.dine_world.specs.Worlds.{lists_of}
use Rattle.dine_rules.proofs.shared.journals.OtherOutcomes.{jobs-same, plan-stays, resigns-same, sites-same}
use Rattle.dine_rules.proofs.shared.one_site.Site.{no_traffic_yet}

-- ---- lists of jobs and of sites

acts_with : (jobs : List SeenJob) (own : List Bool) → map (λ (job : SeenJob). job.act) (jobs_with jobs own) ≡ map (λ (job : SeenJob). job.act) jobs
acts_with [] own = refl
acts_with (job ∷ jobs) [] = refl
acts_with (job ∷ jobs) (failed ∷ own) = ap (λ (acts : List Act). job.act ∷ acts) (acts_with jobs own)

acts_at : (sites : List SeenSite) (fails : List (List Bool)) (s : ℕ) → map (λ (job : SeenJob). job.act) (get_or (sites_with sites fails) s no_site).jobs ≡ map (λ (job : SeenJob). job.act) (get_or sites s no_site).jobs
acts_at [] fails s = refl
acts_at (site ∷ sites) [] s = refl
acts_at (site ∷ sites) (own ∷ fails) zero = acts_with site.jobs own
acts_at (site ∷ sites) (own ∷ fails) (suc s) = acts_at sites fails s

-- the outcome of a job, where these are given, or its own
job_at : (jobs : List SeenJob) (own : List Bool) (k : ℕ) → k < length jobs → (get_or (jobs_with jobs own) k no_job).fails ≡ unwrap_or (slice_get own k) (get_or jobs k no_job).fails
job_at [] own k within = absurd (omega arith)
job_at (job ∷ jobs) [] k within = refl
job_at (job ∷ jobs) (failed ∷ own) zero within = refl
job_at (job ∷ jobs) (failed ∷ own) (suc k) within = job_at jobs own k (omega arith)

outcome_in : (sites : List SeenSite) (fails : List (List Bool)) (s k : ℕ) → k < length (get_or sites s no_site).jobs
    → (get_or (get_or (sites_with sites fails) s no_site).jobs k no_job).fails ≡ unwrap_or (option_and_then (λ (own : List Bool). slice_get own k) (slice_get fails s)) (get_or (get_or sites s no_site).jobs k no_job).fails
outcome_in [] fails s k within = absurd (omega arith)
outcome_in (site ∷ sites) [] s k within = refl
outcome_in (site ∷ sites) (own ∷ fails) zero k within = job_at site.jobs own k within
outcome_in (site ∷ sites) (own ∷ fails) (suc s) k within = outcome_in sites fails s k within

-- two functions that are the same give the same lists
map_same : (f g : ℕ → ℕ) → ((x : ℕ) → f x ≡ g x) → (xs : List ℕ) → map f xs ≡ map g xs
map_same f g same [] = refl
map_same f g same (x ∷ xs) = ap₂ (λ (y : ℕ) (ys : List ℕ). y ∷ ys) (same x) (map_same f g same xs)

-- ---- the plan

module _ (plan : SeenPlan) (fails : List (List Bool)) where
  abbrev pub other : SeenPlan
  other = with_outcomes plan fails

  -- whether meal k fails, from 1
  pub outcome_at : (s k : ℕ) → k < job_count plan s → (job_of other s (k + 1)).fails ≡ unwrap_or (option_and_then (λ (own : List Bool). slice_get own k) (slice_get fails s)) (job_of plan s (k + 1)).fails
  outcome_at s k within =
      let number : k + 1 - 1 ≡ k = omega arith in
      subst (λ (n : ℕ). (get_or (jobs_of other s) n no_job).fails ≡ unwrap_or (option_and_then (λ (own : List Bool). slice_get own k) (slice_get fails s)) (get_or (jobs_of plan s) n no_job).fails) (sym number)
      (outcome_in plan.sites fails s k within)

  pub bound_same : bound_of plan ≡ bound_of other
  bound_same =
      let jobs : map (job_count plan) (range_with_len 0 (site_count plan)) ≡ map (job_count other) (range_with_len 0 (site_count plan))
      = map_same (job_count plan) (job_count other) (λ s. sym (jobs-same plan fails s)) (range_with_len 0 (site_count plan)) in
      let sites : map (job_count other) (range_with_len 0 (site_count plan)) ≡ map (job_count other) (range_with_len 0 (site_count other))
      = ap (λ (n : ℕ). map (job_count other) (range_with_len 0 n)) (sym (sites-same plan fails)) in
      let letters : map (λ edge. 4 * meals_due plan edge + 8) (range_with_len 0 (edge_count plan)) ≡ map (λ edge. 4 * meals_due other edge + 8) (range_with_len 0 (edge_count plan))
      = map_same (λ edge. 4 * meals_due plan edge + 8) (λ edge. 4 * meals_due other edge + 8)
      (λ edge. ap₂ (λ (a b : ℕ). 4 * (a + b) + 8) (sym (jobs-same plan fails (lo_of plan edge))) (sym (jobs-same plan fails (hi_of plan edge)))) (range_with_len 0 (edge_count plan)) in
      ap₂ (λ (a b : List ℕ). 3 * sum a + sum b) (jobs ∙ sites) letters

  -- ---- a site at the start

  -- what is kept at a place, by the jobs of its ends and the policy of the other one
  abbrev place_by : ℕ → ℕ → ℕ → ℕ → Bool → Place
  place_by s edge low high policy = record {
    edge = edge;
    ends = (lo_of plan edge, hi_of plan edge);
    due = (low, high);
    neighbour_resigns = policy;
    fork = if forks_held plan s edge no_traffic == 1
        then Here (record { edge = edge; ends = (lo_of plan edge, hi_of plan edge); due = (low, high); log = []; value = value_of plan edge })
        else Away;
    token = token_kept plan s Thinking 0 edge no_traffic;
    done_put = false;
    done_taken = false;
    close_put = false;
    close_taken = false;
  }

  kept_by_jobs : (s edge : ℕ) → place_by s edge (job_count plan (lo_of plan edge)) (job_count plan (hi_of plan edge)) (resigns plan (other_of plan edge s))
      ≡ place_by s edge (job_count other (lo_of plan edge)) (job_count other (hi_of plan edge)) (resigns other (other_of plan edge s))
  kept_by_jobs s edge =
      ap₂ (λ (low high : ℕ). place_by s edge low high (resigns plan (other_of plan edge s))) (sym (jobs-same plan fails (lo_of plan edge))) (sym (jobs-same plan fails (hi_of plan edge)))
      ∙ ap (place_by s edge (job_count other (lo_of plan edge)) (job_count other (hi_of plan edge))) (sym (resigns-same plan fails (other_of plan edge s)))

  kept_start : (s edge : ℕ) → kept_of plan s Thinking 0 edge no_traffic ≡ kept_of other s Thinking 0 edge no_traffic
  kept_start s edge = kept_by_jobs s edge

  kept_same : (s edge : ℕ) (t : Traffic) → t ≡ no_traffic → kept_of plan s Thinking 0 edge t ≡ kept_of other s Thinking 0 edge t
  kept_same s edge t none = subst (λ (u : Traffic). kept_of plan s Thinking 0 edge u ≡ kept_of other s Thinking 0 edge u) (sym none) (kept_start s edge)

  pub stands_other : (s : ℕ) (core : SeenCore) → Refines plan (start_of plan s) core → Refines other (start_of other s) core
  stands_other s core stands = record {
    is_plan = plan-stays plan fails stands.is_plan;
    is_site = omega (arith, stands.is_site, sites-same plan fails);
    due = stands.due ∙ sym (jobs-same plan fails core.site);
    acts = stands.acts ∙ sym (acts_at plan.sites fails core.site);
    resigns = stands.resigns ∙ sym (resigns-same plan fails core.site);
    phase = stands.phase;
    ate = stands.ate;
    must_quit = stands.must_quit;
    has_quit = stands.has_quit;
    degree = stands.degree;
    places = λ i past h. stands.places i past h ∙ kept_same core.site (edge_at plan core.site i) (traffic_at (start_of plan s) i) (no_traffic_yet (edges_of plan s) i);
  }

-- ---- lists as the code has them

and_then_map : (k : ℕ) (o : Option (Vec Bool Global)) → option_and_then (λ (own : Vec Bool Global). slice_get own.items k) o ≡ option_and_then (λ (own : List Bool). slice_get own k) (option_map (λ (own : Vec Bool Global). own.items) o)
and_then_map k None = refl
and_then_map k (Some own) = refl

-- whether meal k fails, from 1, by what the lists say of it
pub outcome_given : (plan : SeenPlan) (fails : List (Vec Bool Global)) (s k : ℕ) (o : Option Bool) → 1 ≤ k → k ≤ job_count plan s
    → o ≡ option_and_then (λ (own : Vec Bool Global). slice_get own.items (k - 1)) (slice_get fails s)
    → unwrap_or o (job_of plan s k).fails ≡ (job_of (with_outcomes plan (lists_of fails)) s k).fails
outcome_given plan fails s k o from_one within is =
    let items : Vec Bool Global → List Bool = λ (own : Vec Bool Global). own.items in
    let number : k - 1 + 1 ≡ k = omega (arith, from_one) in
    let said : o ≡ option_and_then (λ (own : List Bool). slice_get own (k - 1)) (slice_get (lists_of fails) s)
    = is ∙ and_then_map (k - 1) (slice_get fails s) ∙ ap (option_and_then (λ (own : List Bool). slice_get own (k - 1))) (sym (slice_get-map items fails s)) in
    ap₂ (λ (x : Option Bool) (n : ℕ). unwrap_or x (job_of plan s n).fails) said (sym number)
    ∙ sym (outcome_at plan (lists_of fails) s (k - 1) (omega (arith, from_one, within)))
    ∙ ap (λ (n : ℕ). (job_of (with_outcomes plan (lists_of fails)) s n).fails) number
