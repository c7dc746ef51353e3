-- The places of a site before its first step are sound.
use Rattle.std.proofs.Common.{◌≡◌, ℕ, suc, ◌+◌, ◌-◌, ◌<◌, ◌≤◌, ◌==◌, Bool, true, false, List, [], ◌∷◌, length, map, filter, cond, get_or, Option, Some, None, is_some, refl, sym, ◌∙◌, ap, subst, inl, inr, arith, if◌then◌else◌}
use Rattle.std.specs.List.{All, range_with_len}
use Rattle.std.proofs.lemmas.List.FromFn.{length-range_with_len}
use Rattle.std.proofs.lemmas.Bool.{eqb-true, eq-eqb, ne_eqb, false≢true}
use Rattle.dine_token.specs.declared.act.Act.{Act}
use Rattle.dine_token.specs.Values.{IsAct}
use Rattle.dine_token.specs.Fork.{SeenFork}
use Rattle.std.proofs.lemmas.List.{length-map}
use Rattle.dine_graph.specs.declared.limits.TheConstants.{MAX_EDGES}
use Rattle.dine_graph.specs.Plan.{SeenPlan, SeenJob, IsPlan, act_of, acts_of, edge_count, is_end, edges_of, job_count, jobs_of, lo_of, hi_of, no_job, resigns, site_count}
use Rattle.dine_rules.specs.declared.phase.Phase.TheVariants.{Thinking}
use Rattle.dine_site.specs.declared.site.places.Place.{Place}
use Rattle.dine_site.specs.declared.site.places.ForkSlot.TheVariants.{Away, Here}
use Rattle.dine_rules.specs.Local.{Traffic, no_traffic, edge_at, start_of}
use Rattle.dine_rules.specs.Steps.{opened_fork}
use Rattle.dine_site.specs.Core.{SeenCore, Refines, kept_of}
use Rattle.dine_site.proofs.shared.lists.Lists.{get_or-map_at}
use Rattle.dine_site.specs.Places.{is_held, FitsPlace, FitsSlot, IsSoundPlace, IsSound}
use Rattle.dine_rules.proofs.shared.one_place.Placed.{IsPlaced, placed}

abbrev pub start_core : ℕ → ℕ → List Act → Bool → List Place → SeenCore
start_core s due acts policy places = record { site = s; due = due; acts = acts; resigns = policy; phase = Thinking; ate = 0; must_quit = false; has_quit = false; places = places }

abbrev one_if : Bool → ℕ
one_if b = (if b then 1 else 0) + 0 - 0

slot_fresh : (b : Bool) (s : ℕ) (place : Place) (fork : SeenFork) → (b ≡ true → FitsPlace s 0 place fork) → FitsSlot s 0 false place (if one_if b == 1 then Here fork else Away)
slot_fresh true s place fork h = (refl, h refl)
slot_fresh false s place fork h = refl

held_fresh : (b : Bool) (fork : SeenFork) → is_held (if one_if b == 1 then Here fork else Away) ≡ true → b ≡ true
held_fresh true fork h = refl
held_fresh false fork h = absurd (false≢true h)

token_fresh : (b : Bool) (edge : ℕ) → is_some {T = ℕ} (if one_if b == 1 then Some edge else None) ≡ true → b ≡ true
token_fresh true edge h = refl
token_fresh false edge h = absurd (false≢true h)

token_own : (b : Bool) (edge other : ℕ) → ◌≡◌ {A = Option ℕ} (if one_if b == 1 then Some edge else None) (Some other) → other ≡ edge
token_own true edge other h = (let e : edge ≡ other = cc in sym e)
token_own false edge other h = absurd (cc)

sound_fresh : (plan : SeenPlan) (s i : ℕ) (acts : List Act) (policy : Bool) (places : List Place) → IsPlaced plan s i → IsSoundPlace (start_core s (job_count plan s) acts policy places) (kept_of plan s Thinking 0 (edge_at plan s i) no_traffic)
sound_fresh plan s i acts policy places w =
    let edge = edge_at plan s i in
    let lo = lo_of plan edge in
    let hi = hi_of plan edge in
    record {
      ordered = w.ordered;
      end = elim w.sides [ inl x ↦ inl (sym x.0) | inr x ↦ inr (sym x.0) ];
      own_due = elim w.sides [
        | inl x ↦ ap (λ (b : Bool). if b then job_count plan lo else job_count plan hi) (eq-eqb s lo (sym x.0)) ∙ ap (job_count plan) x.0
        | inr x ↦ ap (λ (b : Bool). if b then job_count plan lo else job_count plan hi) (ne_eqb s lo (λ e. omega (arith, e, x.0, w.ordered))) ∙ ap (job_count plan) x.0
      ];
      slot = slot_fresh (lo == s) s (kept_of plan s Thinking 0 edge no_traffic) (opened_fork plan edge) (λ h. record { edge = refl; ends = refl; due = refl; here = eqb-true lo s h; eaten = refl });
      asked = λ held token.
          let low : lo ≡ s = eqb-true lo s (held_fresh (lo == s) (opened_fork plan edge) held) in
          let high : hi ≡ s = eqb-true hi s (token_fresh (hi == s) edge token) in
          absurd (omega (arith, low, high, w.ordered));
      token = λ other h. token_own (hi == s) edge other h;
    }

-- the acts of a site's jobs are such as meals may do
acts_small : (plan : SeenPlan) (s : ℕ) → IsPlan plan → s < site_count plan → All IsAct (acts_of plan s)
acts_small plan s is_plan is_site k past h =
    let f : SeenJob → Act = λ job. job.act in
    let within : k < job_count plan s = omega (arith, h, length-map (jobs_of plan s) f) in
    let small : IsAct (act_of plan s (k + 1)) = is_plan.small_acts s (k + 1) is_site (omega arith) (omega (arith, within)) in
    let number : k + 1 - 1 ≡ k = omega arith in
    subst IsAct (sym (get_or-map_at f (jobs_of plan s) k past no_job within)) (subst (λ (n : ℕ). IsAct (get_or (jobs_of plan s) n no_job).act) number small)

pub sound_start : (plan : SeenPlan) (s due : ℕ) (acts : List Act) (policy : Bool) (places : List Place) → IsPlan plan → s < site_count plan → due ≡ job_count plan s → acts ≡ acts_of plan s → places ≡ map (λ edge. kept_of plan s Thinking 0 edge no_traffic) (edges_of plan s) → IsSound (start_core s due acts policy places)
sound_start plan s due acts policy places is_plan is_site due_is acts_are is = record {
  places = λ i d h.
      let f : ℕ → Place = λ edge. kept_of plan s Thinking 0 edge no_traffic in
      let within : i < length (edges_of plan s) = omega (arith, h, ap length is, length-map (edges_of plan s) f) in
      let place_is : get_or places i d ≡ f (edge_at plan s i) = ap (λ (l : List Place). get_or l i d) is ∙ get_or-map_at f (edges_of plan s) i d 0 within in
      subst (λ (n : ℕ). IsSoundPlace (start_core s n acts policy places) (get_or places i d)) (sym due_is)
      (subst (IsSoundPlace (start_core s (job_count plan s) acts policy places)) (sym place_is) (sound_fresh plan s i acts policy places (placed plan s i is_plan within)));
  acts = ap length acts_are ∙ length-map (jobs_of plan s) (λ (job : SeenJob). job.act) ∙ sym due_is;
  small_acts = λ k past h. subst IsAct (sym (ap (λ (l : List Act). get_or l k past) acts_are)) (acts_small plan s is_plan is_site k past (omega (arith, h, ap length acts_are)));
  within = omega arith;
  hungry = λ h. absurd (false≢true h);
}

-- and they represent the initial state
pub refines_start : (plan : SeenPlan) (s due : ℕ) (acts : List Act) (policy : Bool) (places : List Place) → IsPlan plan → s < site_count plan → due ≡ job_count plan s → acts ≡ acts_of plan s → policy ≡ resigns plan s
    → places ≡ map (λ edge. kept_of plan s Thinking 0 edge no_traffic) (edges_of plan s) → Refines plan (start_of plan s) (start_core s due acts policy places)
refines_start plan s due acts policy places is_plan is_site due_is acts_are policy_is is =
    let edges = edges_of plan s in
    let f : ℕ → Place = λ edge. kept_of plan s Thinking 0 edge no_traffic in
    let none : ℕ → Traffic = λ edge. no_traffic in
    record {
      is_plan = is_plan;
      is_site = is_site;
      due = due_is;
      acts = acts_are;
      resigns = policy_is;
      phase = refl;
      ate = refl;
      must_quit = refl;
      has_quit = refl;
      degree = ap length is ∙ length-map edges f ∙ sym (length-map edges none);
      places = λ i past h.
          let within : i < length edges = omega (arith, h, ap length is, length-map edges f) in
          ap (λ (l : List Place). get_or l i past) is ∙ get_or-map_at f edges i past 0 within
          ∙ ap (λ (traffic : Traffic). kept_of plan s Thinking 0 (edge_at plan s i) traffic) (sym (get_or-map_at none edges i no_traffic 0 within));
    }

pub filter_few : (p : ℕ → Bool) (xs : List ℕ) → length (filter p xs) ≤ length xs
filter_few p [] = omega arith
filter_few p (x ∷ xs) =
    let rest = filter_few p xs in
    elim (p x) as (λ b. length (cond b (x ∷ filter p xs) (filter p xs)) ≤ suc (length xs)) [ true ↦ omega (arith, rest) | false ↦ omega (arith, rest) ]

-- a site has at most as many places as the plan has edges
pub places_few : (plan : SeenPlan) (s : ℕ) (places : List Place) → IsPlan plan → places ≡ map (λ edge. kept_of plan s Thinking 0 edge no_traffic) (edges_of plan s) → length places ≤ MAX_EDGES
places_few plan s places is_plan is =
    omega (arith, ap length is, length-map (edges_of plan s) (λ edge. kept_of plan s Thinking 0 edge no_traffic), filter_few (is_end plan s) (range_with_len 0 (edge_count plan)), length-range_with_len 0 (edge_count plan), is_plan.few_edges)
