-- The lower of two sites eats on, as long as it takes no letter.
use Rattle.std.proofs.Common.{◌≡◌, ◌≢◌, ℕ, zero, suc, ◌+◌, ◌*◌, ◌-◌, ◌<◌, ◌≤◌, ◌&&◌, ◌||◌, not, nat_lt, Bool, true, false, IsTrue, List, [], ◌∷◌, get_or, replicate, codes, Some, refl, sym, ◌∙◌, ap, subst, arith}
use Rattle.std.proofs.lemmas.Bool.{cond-true, lt-ltb}
use Rattle.std.proofs.lemmas.List.{get_or-replicate, length-replicate}
use Rattle.dine_token.specs.declared.limits.TheConstants.{MAX_JOBS, MAX_NUMBER}
use Rattle.dine_graph.specs.declared.limits.TheConstants.{MAX_TURNS}
use Rattle.dine_graph.specs.Plan.{IsPlan, SeenJob, SeenPlan, hi_of, is_name, job_count, job_of, lo_of, name_of, no_job, value_of}
use Rattle.dine_token.specs.Values.{IsAct}
use Rattle.dine_rules.specs.declared.events.EventKind.TheVariants as event
use Rattle.dine_rules.specs.declared.phase.Phase.{Phase}
use Rattle.dine_rules.specs.declared.phase.Phase.TheVariants as phase
use Rattle.dine_rules.specs.Holdings.{hand_at}
use Rattle.dine_rules.specs.Local.{LocalState, meal_fails}
use Rattle.dine_rules.specs.Steps as step
use Rattle.dine_rules.specs.Steps.{may}
use Rattle.dine_token.specs.Log.{is_dirty}
use Rattle.dine_waking.specs.Examples.{at_work, request, state_in}
use Rattle.dine_waking.specs.MannerExamples.{asked_run, rung_run}
use Rattle.dine_waking.specs.Examples.{named_job, two_sites}
use Rattle.dine_waking.specs.Manners.{IsInManner, LeadsInManner, MannerStep, finds_no_ring, has_checked, checked_after}
use Rattle.dine_waking.specs.Mistakes.{LeadsByOneCheck}
use Rattle.dine_waking.specs.Runs.{Acts, ByActing, GoesOn, Run, Thread}
use Rattle.dine_waking.proofs.Queues.{event_happens}

pub or_true_and : (b : Bool) → ((b || true) && true) ≡ true
or_true_and true = refl
or_true_and false = refl

pub never_drops : (failed : Bool) (more : Bool) → (failed && false && more) ≡ false
never_drops true more = refl
never_drops false more = refl

or_true : (b : Bool) → (b || true) ≡ true
or_true true = refl
or_true false = refl

module _ (k : ℕ) (polite : Bool) (bell : List ℕ) (higher : Thread) where
  abbrev plan : SeenPlan
  plan = two_sites k 1

  jobs : job_count plan 0 ≡ k
  jobs = length-replicate k named_job

  -- the lower site
  abbrev pub site : Phase → ℕ → LocalState
  site does n = record (state_in does [] []) { ate = n }

  abbrev pub at : Phase → ℕ → Run
  at does n = record { world = site does n ∷ state_in phase.Hungry (request ∷ []) [] ∷ []; threads = at_work GoesOn bell ∷ higher ∷ []; is_open = false }

  pub in_manner : (checked : ℕ → Bool) (old new : Run) (a : Acts plan 0 old new) (b : Bool) → (b ≡ true → a.kind ≡ event.Begin → has_checked plan old checked 0 ≡ true) → IsInManner plan 0 checked old new (ByActing a) b
  in_manner checked old new a true checks = checks refl
  in_manner checked old new a false checks = tt

  abbrev one_step : (checked : ℕ → Bool) (old new : Run) (a : Acts plan 0 old new) → (polite ≡ true → a.kind ≡ event.Begin → has_checked plan old checked 0 ≡ true) → MannerStep plan (λ s. polite) checked old new
  one_step checked old new a checks = record { step = record { site = 0; is_site = omega arith; step = ByActing a }; in_manner = in_manner checked old new a polite checks }

  -- a polite one that has no ring has checked
  checks_now : (polite ≡ true → bell ≡ []) → (checked : ℕ → Bool) (n : ℕ) → polite ≡ true → has_checked plan (at phase.Hungry n) checked 0 ≡ true
  checks_now silent checked n is = ap (λ (rings : List ℕ). checked 0 || finds_no_ring plan 0 (site phase.Hungry n) GoesOn rings) (silent is) ∙ or_true (checked 0)

  -- it grows hungry
  module _ (checked : ℕ → Bool) (n : ℕ) (left : n < k) where
    pub may_hunger : may plan 0 (site phase.Thinking n) step.Hungry ≡ true
    may_hunger =
        let more : nat_lt n (job_count plan 0) ≡ true = lt-ltb n (job_count plan 0) (omega (arith, jobs)) in
        ap (λ (b : Bool). b && true) more

    abbrev pub hungers : MannerStep plan (λ s. polite) checked (at phase.Thinking n) (at phase.Hungry n)
    hungers = one_step checked (at phase.Thinking n) (at phase.Hungry n) (record {
      goes_on = refl;
      kind = event.Hungry;
      next = cond-true (may plan 0 (site phase.Thinking n) step.Hungry) (Some event.Hungry) _ may_hunger;
      world = event_happens plan (at phase.Thinking n).world 0 event.Hungry step.Hungry (omega arith) refl may_hunger;
      as_open = refl;
      threads = refl;
    }) (λ polite is. absurd cc)

    -- it begins a meal
    pub may_begin : may plan 0 (site phase.Hungry n) step.Begin ≡ true
    may_begin = or_true_and (not (is_dirty (hand_at 0 (site phase.Hungry n) 0)))

    abbrev pub begins : (polite ≡ true → has_checked plan (at phase.Hungry n) checked 0 ≡ true) → MannerStep plan (λ s. polite) checked (at phase.Hungry n) (at phase.Eating (n + 1))
    begins checks = one_step checked (at phase.Hungry n) (at phase.Eating (n + 1)) (record {
      goes_on = refl;
      kind = event.Begin;
      next = cond-true (may plan 0 (site phase.Hungry n) step.Begin) (Some event.Begin) _ may_begin;
      world = event_happens plan (at phase.Hungry n).world 0 event.Begin step.Begin (omega arith) refl may_begin;
      as_open = refl;
      threads = refl;
    }) (λ is begins. checks is)

    -- it ends the meal
    abbrev pub ends : MannerStep plan (λ s. polite) checked (at phase.Eating (n + 1)) (at phase.Thinking (n + 1))
    ends =
        let failed : Bool = meal_fails plan 0 (site phase.Eating (n + 1)) in
        one_step checked (at phase.Eating (n + 1)) (at phase.Thinking (n + 1)) (record {
          goes_on = refl;
          kind = event.End;
          next = refl;
          world = event_happens plan (at phase.Eating (n + 1)).world 0 event.End (step.End failed) (omega arith) refl refl
              ∙ ap (λ (b : Bool). Some (record (site phase.Thinking (n + 1)) { must_quit = b } ∷ state_in phase.Hungry (request ∷ []) [] ∷ []))
              (never_drops failed (nat_lt (n + 1) (job_count plan 0)));
          as_open = refl;
          threads = refl;
        }) (λ polite is. absurd cc)

  -- and so on, until it has begun k meals
  pub eats_on : (polite ≡ true → bell ≡ []) → (checked : ℕ → Bool) (left n : ℕ) → n + left ≡ k → (checked_then : ℕ → Bool) × LeadsInManner plan (λ s. polite) (3 * left) checked (asked_run n (at_work GoesOn bell) higher) checked_then (asked_run k (at_work GoesOn bell) higher)
  eats_on silent checked zero n all = (checked, (refl, ap (λ (n : ℕ). asked_run n (at_work GoesOn bell) higher) (let same : n ≡ k = omega arith in same)))
  eats_on silent checked (suc left) n all =
      let three : suc (suc (suc (3 * left))) ≡ 3 * suc left = omega arith in
      let more : n < k = omega arith in
      let second : ℕ → Bool = checked_after plan (at phase.Thinking n) 0 checked in
      let third : ℕ → Bool = checked_after plan (at phase.Hungry n) 0 second in
      let rest = eats_on silent (checked_after plan (at phase.Eating (n + 1)) 0 third) left (n + 1) (omega arith) in (
        rest.0,
        subst (λ (m : ℕ). LeadsInManner plan (λ s. polite) m checked (asked_run n (at_work GoesOn bell) higher) rest.0 (asked_run k (at_work GoesOn bell) higher)) three
            (at phase.Hungry n, hungers checked n more, (at phase.Eating (n + 1), begins second n more (checks_now silent second n), (at phase.Thinking (n + 1), ends third n more, rest.1))),
      )

-- the same by one check for all meals
pub eats_on_by_one_check : (k left n : ℕ) → n + left ≡ k → LeadsByOneCheck (two_sites k 1) (λ s. true) (3 * left) (rung_run n) (rung_run k)
eats_on_by_one_check k zero n all = ap rung_run (let same : n ≡ k = omega arith in same)
eats_on_by_one_check k (suc left) n all =
    let three : suc (suc (suc (3 * left))) ≡ 3 * suc left = omega arith in
    let more : n < k = omega arith in
    let bell : List ℕ = 0 ∷ [] in
    let higher : Thread = at_work GoesOn [] in
    let checked : ℕ → Bool = λ s. true in
    subst (λ (m : ℕ). LeadsByOneCheck (two_sites k 1) (λ s. true) m (rung_run n) (rung_run k)) three
    (at k true bell higher phase.Hungry n, hungers k true bell higher checked n more, (at k true bell higher phase.Eating (n + 1), begins k true bell higher checked n more (λ is. refl), (at k true bell higher phase.Thinking (n + 1), ends k true bell higher checked n more, eats_on_by_one_check k left (n + 1) (omega arith))))

-- ---- the two sites are a plan

all_same : (n : ℕ) (job : SeenJob) (i : ℕ) → i < n → get_or (replicate n job) i no_job ≡ job
all_same n job i within = get_or-replicate n i job no_job within

module _ (a b : ℕ) (few_a : a ≤ MAX_JOBS) (few_b : b ≤ MAX_JOBS) where
  abbrev both : SeenPlan
  both = two_sites a b

  -- each job is the named one
  jobs_are : (s : ℕ) → s < 2 → (k : ℕ) → 1 ≤ k → k ≤ job_count both s → job_of both s k ≡ named_job
  jobs_are zero is_site k some within = all_same a named_job (k - 1) (omega (arith, length-replicate a named_job))
  jobs_are (suc zero) is_site k some within = all_same b named_job (k - 1) (omega (arith, length-replicate b named_job))
  jobs_are (suc (suc s)) is_site k some within = absurd (omega arith)

  few : (s : ℕ) → s < 2 → job_count both s ≤ MAX_JOBS
  few zero is_site = omega (arith, length-replicate a named_job)
  few (suc zero) is_site = omega (arith, length-replicate b named_job)
  few (suc (suc s)) is_site = absurd (omega arith)

  names : (s : ℕ) → s < 2 → IsTrue (is_name (name_of both s))
  names zero is_site = refl
  names (suc zero) is_site = refl
  names (suc (suc s)) is_site = absurd (omega arith)

  differ : (s t : ℕ) → s < t → t < 2 → name_of both s ≢ name_of both t
  differ zero (suc zero) less is_site same = let e : get_or (codes "a") 0 0 ≡ get_or (codes "b") 0 0 = ap (λ (name : List ℕ). get_or name 0 0) same in omega arith
  differ (suc s) (suc zero) less is_site same = absurd (omega arith)
  differ s zero less is_site same = absurd (omega arith)
  differ s (suc (suc t)) less is_site same = absurd (omega arith)

  one_edge : (P : ℕ → Type 0) → P 0 → (e : ℕ) → e < 1 → P e
  one_edge P here zero is_edge = here
  one_edge P here (suc e) is_edge = absurd (omega arith)

  pub is_plan : IsPlan both
  is_plan = record {
    first_version = omega arith;
    last_version = omega arith;
    has_site = omega arith;
    few_sites = omega arith;
    few_edges = omega arith;
    few_jobs = few;
    few_turns = λ s k is_site some within. subst (λ (job : SeenJob). job.turns ≤ MAX_TURNS) (sym (jobs_are s is_site k some within)) (omega arith);
    small_acts = λ s k is_site some within. subst (λ (job : SeenJob). IsAct job.act) (sym (jobs_are s is_site k some within)) (omega arith);
    named = names;
    jobs_named = λ s k is_site some within. subst (λ (job : SeenJob). IsTrue (is_name job.name)) (sym (jobs_are s is_site k some within)) refl;
    names_differ = differ;
    ordered = one_edge (λ e. lo_of both e < hi_of both e) (omega arith);
    within = one_edge (λ e. hi_of both e < 2) (omega arith);
    edges_differ = λ e f less is_edge. absurd (omega arith);
    valued = refl;
    small_values = one_edge (λ e. value_of both e ≤ MAX_NUMBER) (omega arith);
  }
