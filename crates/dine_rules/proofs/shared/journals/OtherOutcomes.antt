-- A plan with other outcomes of its jobs: all else is as it was, and each journal leads to the state that it led to.
use Rattle.std.proofs.Common.{◌≡◌, ℕ, zero, suc, ◌+◌, ◌-◌, ◌<◌, Bool, not, ◌&&◌, ◌||◌, ◌==◌, if◌then◌else◌, nat_lt, true, false, map, slice_set, option_map, IsTrue, List, [], ◌∷◌, length, slice_get, Option, Some, None, refl, sym, ◌∙◌, ap, ap₂, subst, arith}
use Rattle.std.specs.List.{range_with_len, slice_index_or}
use Rattle.std.proofs.lemmas.Bool.{false≢true}
use Rattle.std.specs.Option.{option_and_then}
use Rattle.dine_token.specs.Fork.{SeenFork, after_move}
use Rattle.dine_token.specs.Log.{meals_of}
use Rattle.dine_token.specs.Values.{IsAct, value_after_act}
use Rattle.dine_token.specs.declared.act.Act.{Act}
use Rattle.dine_token.specs.declared.log_entry.Entry.{Entry}
use Rattle.dine_graph.specs.Plan.{SeenPlan, SeenSite, SeenJob, IsPlan, act_of, is_name, job_count, job_of, lo_of, hi_of, name_of, no_job, no_site, resigns, site_count, value_of}
use Rattle.dine_rules.specs.Breach.{has_all_of_neighbour, is_fork_of, may_come, was_sent_to}
use Rattle.dine_rules.specs.Holdings.{fork_at, hand, hand_at, token_at}
use Rattle.dine_rules.specs.Journals.{AreStatesAfter, IsJournal, IsWholeOrder, fails_before, next_of_these, state_after, state_after_all}
use Rattle.dine_rules.specs.Letters.{has_close, has_done, last_log_or, last_value_or}
use Rattle.dine_rules.specs.Local.{LocalState, Traffic, edge_at, is_thinking, meal_fails, neighbour_at, start_of, traffic_at}
use Rattle.dine_rules.specs.Outcomes.{NoSiteResigns, jobs_with, sites_with, with_outcomes}
use Rattle.dine_rules.specs.Steps.{Step, Give, Hungry, End, Done, Take, after, fork_with, given_fork, is_open, may, step_by, with_put}
use Rattle.dine_rules.specs.Values.{after_meals, hand_value}
use Rattle.dine_rules.specs.World.{IsComplete, WorldState, after_events, local_after, next_letter, site_after, start, state_of, step_of, world_after}
use Rattle.dine_rules.specs.declared.events.Event.{Event}
use Rattle.dine_rules.specs.declared.events.EventKind.{EventKind}
use Rattle.dine_rules.specs.declared.events.EventKind.TheVariants as event
use Rattle.dine_rules.specs.declared.letters.Letter.{Letter}
use Rattle.dine_rules.specs.declared.letters.Letter.TheVariants as letter
use Rattle.dine_rules.specs.declared.phase.Phase.TheVariants.{Thinking}

-- ---- lists of jobs and of sites

jobs_with-length : (jobs : List SeenJob) (fails : List Bool) → length (jobs_with jobs fails) ≡ length jobs
jobs_with-length [] fails = refl
jobs_with-length (job ∷ jobs) [] = refl
jobs_with-length (job ∷ jobs) (failed ∷ fails) = ap suc (jobs_with-length jobs fails)

-- what does not look at the outcome of a job is the same
job-same : {X : Type 0} (f : SeenJob → X) → ((job : SeenJob) (failed : Bool) → f (record job { fails = failed }) ≡ f job) → (jobs : List SeenJob) (fails : List Bool) (k : ℕ)
    → f (slice_index_or (jobs_with jobs fails) k no_job) ≡ f (slice_index_or jobs k no_job)
job-same f same [] fails k = refl
job-same f same (job ∷ jobs) [] k = refl
job-same f same (job ∷ jobs) (failed ∷ fails) zero = same job failed
job-same f same (job ∷ jobs) (failed ∷ fails) (suc k) = job-same f same jobs fails k

job-fails : (jobs : List SeenJob) (fails : List Bool) (k : ℕ) (failed : Bool) → k < length jobs → slice_get fails k ≡ Some failed → (slice_index_or (jobs_with jobs fails) k no_job).fails ≡ failed
job-fails [] fails k failed few h = absurd (omega arith)
job-fails (job ∷ jobs) [] k failed few h = absurd cc
job-fails (job ∷ jobs) (one ∷ fails) zero failed few h = cc
job-fails (job ∷ jobs) (one ∷ fails) (suc k) failed few h = job-fails jobs fails k failed (omega arith) h

sites_with-length : (sites : List SeenSite) (fails : List (List Bool)) → length (sites_with sites fails) ≡ length sites
sites_with-length [] fails = refl
sites_with-length (site ∷ sites) [] = refl
sites_with-length (site ∷ sites) (own ∷ fails) = ap suc (sites_with-length sites fails)

sites_with-none : (sites : List SeenSite) → sites_with sites [] ≡ sites
sites_with-none [] = refl
sites_with-none (site ∷ sites) = refl

-- with no outcomes given, each job keeps its own
pub own-outcomes : (plan : SeenPlan) → with_outcomes plan [] ≡ plan
own-outcomes plan = ap (λ (sites : List SeenSite). record plan { sites = sites }) (sites_with-none plan.sites)

-- what does not look at the outcomes of a site's jobs is the same
site-same : {X : Type 0} (f : SeenSite → X) → ((site : SeenSite) (own : List Bool) → f (record site { jobs = jobs_with site.jobs own }) ≡ f site) → (sites : List SeenSite) (fails : List (List Bool)) (s : ℕ)
    → f (slice_index_or (sites_with sites fails) s no_site) ≡ f (slice_index_or sites s no_site)
site-same f same [] fails s = refl
site-same f same (site ∷ sites) [] s = refl
site-same f same (site ∷ sites) (own ∷ fails) zero = same site own
site-same f same (site ∷ sites) (own ∷ fails) (suc s) = site-same f same sites fails s

site-fails : (sites : List SeenSite) (fails : List (List Bool)) (own : List Bool) (s k : ℕ) (failed : Bool) → slice_get fails s ≡ Some own → slice_get own k ≡ Some failed
    → k < length (slice_index_or sites s no_site).jobs → (slice_index_or (slice_index_or (sites_with sites fails) s no_site).jobs k no_job).fails ≡ failed
site-fails [] fails own s k failed h is few = absurd (omega arith)
site-fails (site ∷ sites) [] own s k failed h is few = absurd cc
site-fails (site ∷ sites) (one ∷ fails) own zero k failed h is few =
    let same : one ≡ own = cc in
    job-fails site.jobs one k failed few (ap (λ (x : List Bool). slice_get x k) same ∙ is)
site-fails (site ∷ sites) (one ∷ fails) own (suc s) k failed h is few = site-fails sites fails own s k failed h is few

-- two functions that are the same lead to the same
then-same : (f g : LocalState → Option LocalState) → ((x : LocalState) → f x ≡ g x) → (o : Option LocalState) → option_and_then f o ≡ option_and_then g o
then-same f g same None = refl
then-same f g same (Some x) = same x

-- ---- the plan

module _ (plan : SeenPlan) (fails : List (List Bool)) where
  abbrev other : SeenPlan
  other = with_outcomes plan fails

  pub sites-same : site_count other ≡ site_count plan
  sites-same = sites_with-length plan.sites fails

  pub names-same : (s : ℕ) → name_of other s ≡ name_of plan s
  names-same s = site-same (λ (site : SeenSite). site.name) (λ site own. refl) plan.sites fails s

  pub resigns-same : (s : ℕ) → resigns other s ≡ resigns plan s
  resigns-same s = site-same (λ (site : SeenSite). site.resigns) (λ site own. refl) plan.sites fails s

  pub jobs-same : (s : ℕ) → job_count other s ≡ job_count plan s
  jobs-same s = site-same (λ (site : SeenSite). length site.jobs) (λ site own. jobs_with-length site.jobs own) plan.sites fails s

  -- what does not look at the outcome of job k is the same
  of_job : {X : Type 0} (f : SeenJob → X) → ((job : SeenJob) (failed : Bool) → f (record job { fails = failed }) ≡ f job) → (s k : ℕ) → f (job_of other s k) ≡ f (job_of plan s k)
  of_job f same s k = site-same (λ (site : SeenSite). f (slice_index_or site.jobs (k - 1) no_job)) (λ site own. job-same f same site.jobs own (k - 1)) plan.sites fails s

  pub job_names-same : (s k : ℕ) → (job_of other s k).name ≡ (job_of plan s k).name
  job_names-same = of_job (λ (job : SeenJob). job.name) (λ job failed. refl)

  pub turns-same : (s k : ℕ) → (job_of other s k).turns ≡ (job_of plan s k).turns
  turns-same = of_job (λ (job : SeenJob). job.turns) (λ job failed. refl)

  pub acts-same : (s k : ℕ) → act_of other s k ≡ act_of plan s k
  acts-same = of_job (λ (job : SeenJob). job.act) (λ job failed. refl)

  -- its jobs have the outcomes
  pub fails-are : (own : List Bool) (s k : ℕ) (failed : Bool) → slice_get fails s ≡ Some own → slice_get own k ≡ Some failed → k < job_count plan s → (job_of other s (k + 1)).fails ≡ failed
  fails-are own s k failed h is few =
      let number : k + 1 - 1 ≡ k = omega arith in
      ap (λ (n : ℕ). (slice_index_or (slice_index_or other.sites s no_site).jobs n no_job).fails) number ∙ site-fails plan.sites fails own s k failed h is few

  -- it is a plan
  pub plan-stays : IsPlan plan → IsPlan other
  plan-stays is = record {
    first_version = is.first_version;
    last_version = is.last_version;
    has_site = omega (arith, sites-same, is.has_site);
    few_sites = omega (arith, sites-same, is.few_sites);
    few_edges = is.few_edges;
    few_jobs = λ s h. omega (arith, jobs-same s, is.few_jobs s (omega (arith, sites-same)));
    few_turns = λ s k h low high. omega (arith, turns-same s k, is.few_turns s k (omega (arith, sites-same)) low (omega (arith, jobs-same s)));
    small_acts = λ s k h low high. subst IsAct (sym (acts-same s k)) (is.small_acts s k (omega (arith, sites-same)) low (omega (arith, jobs-same s)));
    named = λ s h. subst (λ (name : List ℕ). IsTrue (is_name name)) (sym (names-same s)) (is.named s (omega (arith, sites-same)));
    jobs_named = λ s k h low high. subst (λ (name : List ℕ). IsTrue (is_name name)) (sym (job_names-same s k)) (is.jobs_named s k (omega (arith, sites-same)) low (omega (arith, jobs-same s)));
    names_differ = λ s t less h same. is.names_differ s t less (omega (arith, sites-same)) (sym (names-same s) ∙ same ∙ names-same t);
    ordered = is.ordered;
    within = λ e h. omega (arith, sites-same, is.within e h);
    edges_differ = is.edges_differ;
    valued = is.valued;
    small_values = is.small_values;
  }

  -- ---- the rules

  has_all-same : (s : ℕ) (state : LocalState) (i : ℕ) (log : List Entry) → has_all_of_neighbour other s state i log ≡ has_all_of_neighbour plan s state i log
  has_all-same s state i log = ap₂ (λ (b : Bool) (n : ℕ). b || meals_of (neighbour_at plan s i) log == n) (resigns-same (neighbour_at plan s i)) (jobs-same (neighbour_at plan s i))

  fork-same : (edge : ℕ) (fork : SeenFork) → is_fork_of other edge fork ≡ is_fork_of plan edge fork
  fork-same edge fork = ap₂ (λ (a b : ℕ). fork.edge == edge && (fork.ends.0 == lo_of plan edge && fork.ends.1 == hi_of plan edge) && (fork.due.0 == a && fork.due.1 == b)) (jobs-same (lo_of plan edge)) (jobs-same (hi_of plan edge))

  comes-same : (s : ℕ) (state : LocalState) (i : ℕ) (l : Letter) → may_come other s state i l ≡ may_come plan s state i l
  comes-same s state i (letter.Request edge) = ap (λ (n : ℕ). edge == edge_at plan s i && (token_at plan s state i == 0 && fork_at plan s state i == 1)
      && (not (has_done (traffic_at state i).taken) && nat_lt (meals_of (neighbour_at plan s i) (hand_at s state i)) n)) (jobs-same (neighbour_at plan s i))
  comes-same s state i (letter.Fork fork) = ap₂ (λ (a b : Bool). a && (fork_at plan s state i == 0 && token_at plan s state i == 0)
      && (was_sent_to (lo_of plan (edge_at plan s i)) s fork.log && meals_of s fork.log == state.ate)
      && (not (has_done (traffic_at state i).taken) || b)) (fork-same (edge_at plan s i) fork) (has_all-same s state i fork.log)
  comes-same s state i letter.Done = ap (λ (b : Bool). not (has_done (traffic_at state i).taken) && (not (fork_at plan s state i == 1) || b)) (has_all-same s state i (hand_at s state i))
  comes-same s state i letter.Close = refl

  may-same : (s : ℕ) (state : LocalState) (step : Step) → may other s state step ≡ may plan s state step
  may-same s state Hungry = ap (λ (n : ℕ). is_thinking state.phase && nat_lt state.ate n && (not state.must_quit && not state.has_quit)) (jobs-same s)
  may-same s state (Done i) = ap (λ (n : ℕ). nat_lt i (length state.traffic) && (is_thinking state.phase && (state.ate == n || state.has_quit)
      && (not (has_done (traffic_at state i).put) && is_open plan s state i))) (jobs-same s)
  may-same s state (Take i l) = ap (λ (b : Bool). nat_lt i (length state.traffic) && (not (has_close (traffic_at state i).taken) && b)) (comes-same s state i l)
  may-same s state step = refl

  values-same : (s first n value : ℕ) → after_meals other s first n value ≡ after_meals plan s first n value
  values-same s first zero value = refl
  values-same s first (suc n) value = values-same s (first + 1) n (value_after_act (act_of other s first) value) ∙ ap (λ (act : Act). after_meals plan s (first + 1) n (value_after_act act value)) (acts-same s first)

  given-same : (s : ℕ) (state : LocalState) (i : ℕ) → given_fork other s state i ≡ given_fork plan s state i
  given-same s state i =
      let edge : ℕ = edge_at plan s i in
      let traffic : Traffic = traffic_at state i in
      let log : List Entry = hand s state.ate traffic in
      ap (λ (value : ℕ). after_move (neighbour_at plan s i) (fork_with other edge log value)) (values-same s (meals_of s (last_log_or [] traffic.taken) + 1) (state.ate - meals_of s (last_log_or [] traffic.taken)) (last_value_or (value_of plan edge) traffic.taken))
      ∙ ap₂ (λ (a b : ℕ). after_move (neighbour_at plan s i) (record { edge = edge; ends = (lo_of plan edge, hi_of plan edge); due = (a, b); log = log; value = hand_value plan s edge state.ate traffic }))
      (jobs-same (lo_of plan edge)) (jobs-same (hi_of plan edge))

  after-same : (s : ℕ) (state : LocalState) (step : Step) → after other s state step ≡ after plan s state step
  after-same s state (Give i) = ap (λ (fork : SeenFork). with_put i (letter.Fork fork) state) (given-same s state i)
  after-same s state (End failed) = ap₂ (λ (b : Bool) (n : ℕ). record state { phase = Thinking; must_quit = failed && b && nat_lt state.ate n }) (resigns-same s) (jobs-same s)
  after-same s state step = refl

  -- so a site is in the same state after an event
  pub step-same : (s : ℕ) (state : LocalState) (o : Option Step) → option_and_then (local_after other s state) o ≡ option_and_then (local_after plan s state) o
  step-same s state None = refl
  step-same s state (Some step) = ap₂ (λ (b : Bool) (new : LocalState). if b then Some new else None) (may-same s state step) (after-same s state step)

  -- and after its events
  leads-same : (s : ℕ) (letters : ℕ → List Letter) (last : Bool) (kinds : List EventKind) (state : LocalState) → state_after_all other s letters last state kinds ≡ state_after_all plan s letters last state kinds
  leads-same s letters last [] state = refl
  leads-same s letters last (kind ∷ kinds) state =
      ap (option_and_then (λ (x : LocalState). state_after_all other s letters last x kinds)) (step-same s state (step_by (fails_before last kinds) (next_of_these letters state) kind))
      ∙ then-same (λ (x : LocalState). state_after_all other s letters last x kinds) (λ (x : LocalState). state_after_all plan s letters last x kinds) (λ x. leads-same s letters last kinds x)
      (state_after plan s letters (fails_before last kinds) state kind)

  pub journal-stays : (s : ℕ) (journal : List EventKind) (state : LocalState) → IsJournal plan s journal state → IsJournal other s journal state
  journal-stays s journal state is = leads-same s (λ i. (traffic_at state i).taken) state.must_quit journal (start_of plan s) ∙ is

  pub states-stay : (journals : List (List EventKind)) (states : WorldState) → AreStatesAfter plan journals states → AreStatesAfter other journals states
  states-stay journals states after = record {
    sites = after.sites ∙ sym sites-same;
    each = λ s h. journal-stays s _ _ (after.each s (omega (arith, sites-same)));
    links = λ s i h within. after.links s i (omega (arith, sites-same)) within;
  }

-- ---- the two worlds

module _ (plan : SeenPlan) (fails : List (List Bool)) where
  pub start-same : start (with_outcomes plan fails) ≡ start plan
  start-same = ap (λ (n : ℕ). map (start_of plan) (range_with_len 0 n)) (sites-same plan fails)

  pub complete-same : (world : WorldState) → IsComplete (with_outcomes plan fails) world → IsComplete plan world
  complete-same world is = record {
    all_think = λ s h. is.all_think s (omega (arith, h, sites-same plan fails));
    all_ate = λ s h. ap (λ (n : ℕ). (state_of world s).ate == n || (state_of world s).has_quit) (sym (jobs-same plan fails s)) ∙ is.all_ate s (omega (arith, h, sites-same plan fails));
    all_closed = λ s i h within. is.all_closed s i (omega (arith, h, sites-same plan fails)) within;
    all_taken = λ s i h within. is.all_taken s i (omega (arith, h, sites-same plan fails)) within;
  }

  -- the world is the same after an event if the state of its site is
  pub world_by_site : (world : WorldState) (e : Event) → site_after (with_outcomes plan fails) world e.site e.kind ≡ site_after plan world e.site e.kind → world_after (with_outcomes plan fails) world e ≡ world_after plan world e
  world_by_site world e same = ap₂ (λ (n : ℕ) (o : Option LocalState). if nat_lt e.site n then option_map (slice_set world e.site) o else None) (sites-same plan fails) same

-- ---- no site resigns: outcomes do not matter

-- a failure that changes nothing, since no site resigns
unheeded : (failed : Bool) (b : Bool) (rest : Bool) → b ≡ false → (failed && b && rest) ≡ false
unheeded true true rest none = absurd (false≢true (sym none))
unheeded true false rest none = refl
unheeded false b rest none = refl

then-world : (f g : WorldState → Option WorldState) → ((x : WorldState) → f x ≡ g x) → (o : Option WorldState) → option_and_then f o ≡ option_and_then g o
then-world f g same None = refl
then-world f g same (Some x) = same x

module _ (plan : SeenPlan) (none : NoSiteResigns plan) where
  end-same : (s : ℕ) (state : LocalState) (f g : Bool) → local_after plan s state (End f) ≡ local_after plan s state (End g)
  end-same s state f g = ap (λ (b : Bool). if may plan s state (End f) then Some (record state { phase = Thinking; must_quit = b }) else None)
      (unheeded f (resigns plan s) (nat_lt state.ate (job_count plan s)) (none s) ∙ sym (unheeded g (resigns plan s) (nat_lt state.ate (job_count plan s)) (none s)))

  heeds-none : (s : ℕ) (state : LocalState) (f g : Bool) (next : ℕ → Option Letter) (kind : EventKind)
      → option_and_then (local_after plan s state) (step_by f next kind) ≡ option_and_then (local_after plan s state) (step_by g next kind)
  heeds-none s state f g next event.End = end-same s state f g
  heeds-none s state f g next kind = refl

module _ (plan : SeenPlan) (fails : List (List Bool)) (none : NoSiteResigns plan) where
  site_after-same : (world : WorldState) (s : ℕ) (kind : EventKind) → site_after (with_outcomes plan fails) world s kind ≡ site_after plan world s kind
  site_after-same world s kind =
      step-same plan fails s (state_of world s) (step_of (with_outcomes plan fails) world s kind)
      ∙ heeds-none plan none s (state_of world s) (meal_fails (with_outcomes plan fails) s (state_of world s)) (meal_fails plan s (state_of world s)) (next_letter plan world s) kind

  world_after-same : (world : WorldState) (e : Event) → world_after (with_outcomes plan fails) world e ≡ world_after plan world e
  world_after-same world e = world_by_site plan fails world e (site_after-same world e.site e.kind)

  after_events-same : (events : List Event) (world : WorldState) → after_events (with_outcomes plan fails) world events ≡ after_events plan world events
  after_events-same [] world = refl
  after_events-same (e ∷ events) world =
      ap (option_and_then (λ (x : WorldState). after_events (with_outcomes plan fails) x events)) (world_after-same world e)
      ∙ then-world (λ (x : WorldState). after_events (with_outcomes plan fails) x events) (λ (x : WorldState). after_events plan x events) (λ x. after_events-same events x) (world_after plan world e)

  pub worlds-same : (events : List Event) → after_events (with_outcomes plan fails) (start (with_outcomes plan fails)) events ≡ after_events plan (start plan) events
  worlds-same events = after_events-same events (start (with_outcomes plan fails)) ∙ ap (λ (world : WorldState). after_events plan world events) (start-same plan fails)

  pub order-same : (journals : List (List EventKind)) (events : List Event) → IsWholeOrder (with_outcomes plan fails) journals events → IsWholeOrder plan journals events
  order-same journals events is = record {
    world = is.world;
    holds_journals = is.holds_journals;
    accepted = sym (worlds-same events) ∙ is.accepted;
    complete = complete-same plan fails is.world is.complete;
  }
