-- The draft that is read of the document of a draft: the same one, if no cause refuses it, and else one that is refused
-- for the same cause.
use Rattle.std.proofs.Common.{◌≡◌, ℕ, zero, suc, ◌+◌, ◌<◌, ◌≤◌, min, max, nat_lt, nat_le, Bool, true, false, not, ◌||◌, cond, List, [], ◌∷◌, map, length, get_or, ◌↔◌, Option, Some, None, unwrap_or, codes, refl, sym, ap, ◌∙◌, inl, inr, arith}
use Rattle.std.specs.List.{All, list_any, position, position_or_len}
use Rattle.std.specs.Option.{option_map_or, option_or}
use Rattle.std.specs.Str.{bytes_eq}
use Rattle.std.proofs.lemmas.Bool.{cases_lt, cases_Bool, false≢true, lt-ltb, le-ltb, lt-leb, le-leb, leb-false, ltb-false, or_parts, not-false}
use Rattle.std.proofs.lemmas.List.Sums.{position_or_len_is}
use Rattle.std.proofs.lemmas.List.{append-nil, get_or-map, get_or_past, length-map}
use Rattle.std.proofs.lemmas.Slice.Eq.{bytes_eq-Decides}
use Rattle.toml.specs.Data.{table}
use Rattle.dine_token.specs.declared.act.Act.{Act}
use Rattle.dine_token.specs.declared.act.Act.TheVariants.{Add, Set}
use Rattle.dine_token.specs.Values.{amount_of}
use Rattle.dine_token.specs.declared.limits.TheConstants.{MAX_JOBS, MAX_NUMBER}
use Rattle.dine_graph.specs.declared.limits.TheConstants.{MAX_TEXT_JOBS, MAX_TURNS}
use Rattle.dine_graph.specs.Plan.{SeenJob, SeenSite, SeenPlan, no_site, no_job, is_name}
use Rattle.dine_graph.proofs.shared.ListLemmas.{position_none_at}
use Rattle.dine_draft.specs.Draft.{SeenDraft, names_of, ends_of_edge, plan_of}
use Rattle.dine_draft.specs.Refusals.{first_some, first_of_draft, first_twice, site_refusals, end_refusals, pair_refusals, act_refusals, is_unnamed, is_long, is_large, is_one_site, has_bad_name, has_many_jobs, has_many_turns, has_unknown_end, joined_by, is_loop, has_large_act, has_large_value}
use Rattle.dine_draft.specs.declared.drafts.DraftEdge.{DraftEdge}
use Rattle.dine_draft.specs.declared.plan_fault.PlanFault.{PlanFault}
use Rattle.dine_draft.proofs.shared.ListLemmas.{list_any-map, list_any_false_at, position-map, position_none, first_twice_none_apart}
use Rattle.dine_draft.proofs.shared.PlanLemmas.{AreSites, are_sites, are_ends, are_acts, first_of_groups, option_or_none}
use Rattle.dine_reader.specs.Document.{text_at, items_at, number_at, turns_in, has_key, fails_in, act_in, resigns_in, version_in, end_in}
use Rattle.dine_reader.specs.PlanOf.{draft_of as draft_read, job_in, site_in, edge_in, number_of, plan_of_document, IsPlanOf}
use Rattle.dine_reader.specs.RefusalFacts.{no_edge}
use Rattle.dine_reader.specs.RefusalTests.{fault_of, first_fault}
use Rattle.dine_reader.proofs.shared.DocumentLemmas.{list_of-items_of, first_of_document}
use Rattle.dine_builder.specs.Draft.{SeenDraftSite, Draft, no_draft_site}
use Rattle.dine_builder.specs.DraftPlan.{HasTextJobs, first_fault_of, job_of_draft, jobs_of_draft, plan_of_draft, site_in_text, site_of_draft, text_of}
use Rattle.dine_plan.specs.DraftDocument.{Says, job_table, site_table, edge_table, end_name, policy_word, document_of}
use Rattle.dine_plan.proofs.MetLemmas.{sites_of_document, edges_of_document, form_met, no_two_acts, no_other_policy}

-- the greatest whole number of TOML, which is written in place of each number above it
abbrev most : ℕ
most = 9223372036854775807

abbrev turns_cut : ℕ → ℕ
turns_cut n = min (min n most) 4294967295

abbrev act_cut : Act → Act
act_cut (Add amount) = Add (min amount most)
act_cut (Set amount) = Set (min amount most)

abbrev job_cut : SeenJob → SeenJob
job_cut job = record { name = job.name; turns = turns_cut job.turns; fails = job.fails; act = act_cut job.act }

abbrev site_cut : SeenSite → SeenSite
site_cut site = record { name = site.name; jobs = map job_cut site.jobs; resigns = site.resigns }

abbrev edge_cut : List (List ℕ) → DraftEdge → DraftEdge
edge_cut names edge = record { a = number_of names (end_name names edge.a); b = number_of names (end_name names edge.b); value = min edge.value most }

-- the draft as it is read
abbrev draft_cut : SeenDraft → SeenDraft
draft_cut d = record { version = 2; most_jobs = MAX_TEXT_JOBS; sites = map site_cut d.sites; edges = map (edge_cut (names_of d.sites)) d.edges; two_acts = None; other_policy = None }

-- what the tables are read as
job_read_at : (n : List ℕ) (t : ℕ) (f : Bool) (act : Act) → job_in (job_table (record { name = n; turns = t; fails = f; act = act })) ≡ record { name = n; turns = turns_cut t; fails = f; act = act_cut act }
unfolding job_in job_table text_at number_at turns_in fails_in act_in has_key
job_read_at n t f (Add amount) = refl
job_read_at n t f (Set amount) = refl

job_read : (job : SeenJob) → job_in (job_table job) ≡ job_cut job
job_read job = job_read_at job.name job.turns job.fails job.act

jobs_read : (jobs : List SeenJob) → map job_in (map job_table jobs) ≡ map job_cut jobs
jobs_read [] = refl
jobs_read (job ∷ jobs) = rw (job_read job, jobs_read jobs)

policy_read : (resigns : Bool) → bytes_eq (policy_word resigns) (codes "resign") ≡ resigns
policy_read true = refl
policy_read false = refl

site_read : (site : SeenSite) → site_in (site_table site) ≡ site_cut site
unfolding site_in site_table text_at items_at resigns_in
site_read site = rw (list_of-items_of (map job_table site.jobs), jobs_read site.jobs, policy_read site.resigns)

sites_read : (sites : List SeenSite) → map site_in (map site_table sites) ≡ map site_cut sites
sites_read [] = refl
sites_read (site ∷ sites) = rw (site_read site, sites_read sites)

names_cut : (sites : List SeenSite) → names_of (map site_cut sites) ≡ names_of sites
names_cut [] = refl
names_cut (site ∷ sites) = ap (λ names. site.name ∷ names) (names_cut sites)

edge_read : (names : List (List ℕ)) (edge : DraftEdge) → edge_in names (edge_table names edge) ≡ edge_cut names edge
unfolding edge_in edge_table end_in number_at
edge_read names edge = refl

edges_read : (names : List (List ℕ)) (edges : List DraftEdge) → map (edge_in names) (map (edge_table names) edges) ≡ map (edge_cut names) edges
edges_read names [] = refl
edges_read names (edge ∷ edges) = rw (edge_read names edge, edges_read names edges)

version_of_document : (d : SeenDraft) → version_in (table (document_of d)) ≡ 2
unfolding number_at document_of
version_of_document d = refl

read_is_cut : (d : SeenDraft) → draft_read (table (document_of d)) ≡ draft_cut d
read_is_cut d =
    rw (
      version_of_document d,
      sites_of_document d,
      edges_of_document d,
      no_two_acts d,
      no_other_policy d,
      sites_read d.sites,
      names_cut d.sites,
      edges_read (names_of d.sites) d.edges,
    )
    refl

-- lists of which each element passes alike
any_alike : {X : Type 0} (p q : X → Bool) → ((x : X) → p x ≡ q x) → (xs : List X) → list_any p xs ≡ list_any q xs
any_alike p q alike [] = refl
any_alike p q alike (x ∷ xs) = rw (alike x, any_alike p q alike xs)

or_len_alike : {X : Type 0} (p q : X → Bool) → ((x : X) → p x ≡ q x) → (xs : List X) → position_or_len p xs ≡ position_or_len q xs
or_len_alike p q alike [] = refl
or_len_alike p q alike (x ∷ xs) = ap (λ n. cond (not (p x)) (1 + n) 0) (or_len_alike p q alike xs) ∙ ap (λ b. cond (not b) (1 + position_or_len q xs) 0) (alike x)

position_alike : {X Y : Type 0} (p : Y → Bool) (f : X → Y) (q : X → Bool) → ((x : X) → p (f x) ≡ q x) → (xs : List X) → position p (map f xs) ≡ position q xs
position_alike p f q alike xs = position-map p f xs ∙ rw (or_len_alike (λ x. p (f x)) q alike xs)

map_alike : {X Y Z : Type 0} (g : Y → Z) (f : X → Y) (h : X → Z) → ((x : X) → g (f x) ≡ h x) → (xs : List X) → map g (map f xs) ≡ map h xs
map_alike g f h alike [] = refl
map_alike g f h alike (x ∷ xs) = rw (alike x, map_alike g f h alike xs)

map_same : {X : Type 0} (f : X → X) (xs : List X) (d : X) → ((i : ℕ) → i < length xs → f (get_or xs i d) ≡ get_or xs i d) → map f xs ≡ xs
map_same f [] d same = refl
map_same f (x ∷ xs) d same = rw (same 0 (omega arith), map_same f xs d (λ i h. same (suc i) (omega arith)))

-- a number that is cut is as large as it was
turns_alike : (n : ℕ) → nat_lt MAX_TURNS (turns_cut n) ≡ nat_lt MAX_TURNS n
turns_alike n =
    elim (cases_lt MAX_TURNS n) [
      | inl large ↦ lt-ltb MAX_TURNS (turns_cut n) (omega arith) ∙ sym (lt-ltb MAX_TURNS n large)
      | inr small ↦ le-ltb MAX_TURNS (turns_cut n) (omega arith) ∙ sym (le-ltb MAX_TURNS n small)
    ]

amount_alike : (n : ℕ) → nat_lt MAX_NUMBER (min n most) ≡ nat_lt MAX_NUMBER n
amount_alike n =
    elim (cases_lt MAX_NUMBER n) [
      | inl large ↦ lt-ltb MAX_NUMBER (min n most) (omega arith) ∙ sym (lt-ltb MAX_NUMBER n large)
      | inr small ↦ le-ltb MAX_NUMBER (min n most) (omega arith) ∙ sym (le-ltb MAX_NUMBER n small)
    ]

act_alike : (act : Act) → nat_lt MAX_NUMBER (amount_of (act_cut act)) ≡ nat_lt MAX_NUMBER (amount_of act)
act_alike (Add amount) = amount_alike amount
act_alike (Set amount) = amount_alike amount

-- the sites are refused for the same causes
bad_alike : (site : SeenSite) → has_bad_name (site_cut site) ≡ has_bad_name site
unfolding has_bad_name
bad_alike site = ap (λ b. not (is_name site.name) || b) (list_any-map is_unnamed job_cut site.jobs)

many_alike : (most : ℕ) (site : SeenSite) → has_many_jobs most (site_cut site) ≡ has_many_jobs most site
unfolding has_many_jobs
many_alike most site = ap (nat_lt most) (length-map site.jobs job_cut)

long_alike : (site : SeenSite) → has_many_turns (site_cut site) ≡ has_many_turns site
unfolding has_many_turns
long_alike site = list_any-map is_long job_cut site.jobs ∙ any_alike (λ job. is_long (job_cut job)) is_long (λ job. turns_alike job.turns) site.jobs

large_alike : (site : SeenSite) → has_large_act (site_cut site) ≡ has_large_act site
unfolding has_large_act
large_alike site = list_any-map is_large job_cut site.jobs ∙ any_alike (λ job. is_large (job_cut job)) is_large (λ job. act_alike job.act) site.jobs

sites_alike : (limit : ℕ) (sites : List SeenSite) → site_refusals limit (map site_cut sites) ≡ site_refusals limit sites
unfolding site_refusals
sites_alike limit sites =
    rw (
      position_alike has_bad_name site_cut has_bad_name bad_alike sites,
      position_alike (has_many_jobs limit) site_cut (has_many_jobs limit) (many_alike limit) sites,
      position_alike has_many_turns site_cut has_many_turns long_alike sites,
      names_cut sites,
      length-map sites site_cut,
    )
    refl

other_bytes : (b : Bool) (name : List ℕ) → bytes_eq [] name ≡ b → is_name name ≡ true → bytes_eq [] name ≡ false
other_bytes true name same named = absurd (unnamed name ((bytes_eq-Decides [] name).0 same) named) where
  unnamed : (name : List ℕ) → [] ≡ name → is_name name ≡ true → ⊥
  unnamed [] same named = cc
  unnamed (c ∷ cs) same named = cc
other_bytes false name same named = same

site_named : (site : SeenSite) → has_bad_name site ≡ false → is_name site.name ≡ true
unfolding has_bad_name
site_named site h = not-false (is_name site.name) (or_parts _ _ h).0

-- sites with names of their own, and the edges between them
module _ (limit : ℕ) (sites : List SeenSite) (are : AreSites limit sites) where
  long : length (names_of sites) ≡ length sites
  long = length-map sites (λ (site : SeenSite). site.name)

  named : (k : ℕ) → k < length sites → is_name (get_or (names_of sites) k []) ≡ true
  named k within =
      ap is_name (get_or-map (λ (site : SeenSite). site.name) sites k no_site [] within) ∙ site_named (get_or sites k no_site) (position_none_at has_bad_name sites k no_site are.named within)

  number_within : (a : ℕ) → a < length sites → number_of (names_of sites) (end_name (names_of sites) a) ≡ a
  number_within a within =
      position_or_len_is (bytes_eq (get_or (names_of sites) a [])) (names_of sites) a [] (omega (arith, long))
      (λ k before. first_twice_none_apart bytes_eq [] (names_of sites) k a are.apart before (omega (arith, long)))
      (λ _. (bytes_eq-Decides (get_or (names_of sites) a []) (get_or (names_of sites) a [])).1 refl)

  number_past : (a : ℕ) → length sites ≤ a → number_of (names_of sites) (end_name (names_of sites) a) ≡ length sites
  number_past a past =
      let unnamed : get_or (names_of sites) a [] ≡ [] = get_or_past (names_of sites) a [] (omega (arith, long)) in
      ap (number_of (names_of sites)) unnamed
      ∙ position_or_len_is (bytes_eq []) (names_of sites) (length sites) [] (omega (arith, long))
      (λ k before. other_bytes (bytes_eq [] (get_or (names_of sites) k [])) (get_or (names_of sites) k []) refl (named k before))
      (λ h. absurd (omega (arith, long)))

  end_alike : (a : ℕ) → nat_le (length sites) (number_of (names_of sites) (end_name (names_of sites) a)) ≡ nat_le (length sites) a
  end_alike a =
      elim (cases_lt a (length sites)) [
        | inl within ↦ ap (nat_le (length sites)) (number_within a within)
        | inr past ↦ ap (nat_le (length sites)) (number_past a past) ∙ le-leb (length sites) (length sites) (omega arith) ∙ sym (le-leb (length sites) a past)
      ]

  unknown_alike : (edge : DraftEdge) → has_unknown_end (length sites) (edge_cut (names_of sites) edge) ≡ has_unknown_end (length sites) edge
  unfolding has_unknown_end
  unknown_alike edge = ap (λ b. b || nat_le (length sites) (number_of (names_of sites) (end_name (names_of sites) edge.b))) (end_alike edge.a) ∙ ap (λ b. nat_le (length sites) edge.a || b) (end_alike edge.b)

  ends_known : (edge : DraftEdge) → has_unknown_end (length sites) edge ≡ false → (edge.a < length sites) × (edge.b < length sites)
  unfolding has_unknown_end
  ends_known edge known = let parts = or_parts _ _ known in (leb-false (length sites) edge.a parts.0, leb-false (length sites) edge.b parts.1)

  ends_alike : (edge : DraftEdge) → has_unknown_end (length sites) edge ≡ false → ends_of_edge (edge_cut (names_of sites) edge) ≡ ends_of_edge edge
  unfolding ends_of_edge
  ends_alike edge known =
      let both = ends_known edge known in
      rw (number_within edge.a both.0, number_within edge.b both.1) refl

  joined_by_alike : (edge : DraftEdge) (b : Bool) → has_unknown_end (length sites) edge ≡ b → joined_by (length sites) (edge_cut (names_of sites) edge) ≡ joined_by (length sites) edge
  unfolding joined_by
  joined_by_alike edge true unknown = rw (unknown_alike edge, unknown) refl
  joined_by_alike edge false known = rw (unknown_alike edge, known) (ap Some (ends_alike edge known))

  joined_alike : (edge : DraftEdge) → joined_by (length sites) (edge_cut (names_of sites) edge) ≡ joined_by (length sites) edge
  joined_alike edge = joined_by_alike edge (has_unknown_end (length sites) edge) refl

  loop_alike : (edge : DraftEdge) → is_loop (length sites) (edge_cut (names_of sites) edge) ≡ is_loop (length sites) edge
  unfolding is_loop
  loop_alike edge = ap (λ o. option_map_or is_one_site o false) (joined_alike edge)

  edges_alike : (edges : List DraftEdge) → end_refusals (length sites) (map (edge_cut (names_of sites)) edges) ≡ end_refusals (length sites) edges
  unfolding end_refusals
  edges_alike edges =
      rw (
        position_alike (has_unknown_end (length sites)) (edge_cut (names_of sites)) (has_unknown_end (length sites)) unknown_alike edges,
        position_alike (is_loop (length sites)) (edge_cut (names_of sites)) (is_loop (length sites)) loop_alike edges,
      )
      refl

value_alike : (own : List (List ℕ)) (edge : DraftEdge) → has_large_value (edge_cut own edge) ≡ has_large_value edge
unfolding has_large_value
value_alike own edge = amount_alike edge.value

acts_alike : (d : Draft) → act_refusals (draft_cut (text_of d)) ≡ act_refusals (text_of d)
unfolding act_refusals
acts_alike d =
    let sites = (text_of d).sites in
    rw (position_alike has_large_act site_cut has_large_act large_alike sites, position_alike has_large_value (edge_cut (names_of sites)) has_large_value (value_alike (names_of sites)) d.edges) refl

-- the draft that is read is refused for the same cause
same_fault_by : (d : Draft) (o : Option PlanFault) → first_some (site_refusals MAX_TEXT_JOBS (text_of d).sites) ≡ o → first_of_draft (draft_cut (text_of d)) ≡ first_of_draft (text_of d)
same_fault_by d (Some f) refused =
    let whole : first_of_draft (text_of d) ≡ Some f = first_of_groups (text_of d) ∙ rw refused refl in
    first_of_groups (draft_cut (text_of d)) ∙ rw (sites_alike MAX_TEXT_JOBS (text_of d).sites, refused) (sym whole)
same_fault_by d None fine =
    let sites = (text_of d).sites in
    let are = are_sites MAX_TEXT_JOBS sites fine in
    first_of_groups (draft_cut (text_of d))
    ∙ rw (
      sites_alike MAX_TEXT_JOBS sites,
      acts_alike d,
      length-map sites site_cut,
      edges_alike MAX_TEXT_JOBS sites are d.edges,
      map_alike (joined_by (length sites)) (edge_cut (names_of sites)) (joined_by (length sites)) (joined_alike MAX_TEXT_JOBS sites are) d.edges,
    )
    (sym (first_of_groups (text_of d)))

same_fault : (d : Draft) → first_of_draft (draft_cut (text_of d)) ≡ first_of_draft (text_of d)
same_fault d = same_fault_by d (first_some (site_refusals MAX_TEXT_JOBS (text_of d).sites)) refl

-- what is read of a draft that is not refused is the draft itself
small : (n : ℕ) → n ≤ MAX_NUMBER → min n most ≡ n
small n h = omega arith

small_turns : (n : ℕ) → n ≤ MAX_TURNS → turns_cut n ≡ n
small_turns n h = omega arith

small_act : (act : Act) → amount_of act ≤ MAX_NUMBER → act_cut act ≡ act
small_act (Add amount) h = ap (λ n. Add n) (small amount h)
small_act (Set amount) h = ap (λ n. Set n) (small amount h)

job_whole : (job : SeenJob) → is_long job ≡ false → is_large job ≡ false → job_cut job ≡ job
job_whole job short light = rw (small_turns job.turns (ltb-false MAX_TURNS job.turns short), small_act job.act (ltb-false MAX_NUMBER (amount_of job.act) light)) refl

site_whole : (site : SeenSite) → has_many_turns site ≡ false → has_large_act site ≡ false → site_cut site ≡ site
unfolding has_many_turns has_large_act
site_whole site short light =
    ap (λ (jobs : List SeenJob). record { name = site.name; jobs = jobs; resigns = site.resigns })
    (map_same job_cut site.jobs no_job (λ i h. job_whole (get_or site.jobs i no_job) (list_any_false_at is_long site.jobs i no_job short h) (list_any_false_at is_large site.jobs i no_job light h)))

value_small : (edge : DraftEdge) → has_large_value edge ≡ false → edge.value ≤ MAX_NUMBER
unfolding has_large_value
value_small edge h = ltb-false MAX_NUMBER edge.value h

draft_whole : (d : Draft) → first_of_draft (text_of d) ≡ None → draft_cut (text_of d) ≡ text_of d
draft_whole d fine =
    let seen = text_of d in
    let sites = option_or_none _ _ (sym (first_of_groups seen) ∙ fine) in
    let ends = option_or_none _ _ sites.1 in
    let pairs = option_or_none _ _ ends.1 in
    let are = are_sites MAX_TEXT_JOBS _ sites.0 in
    let known = (are_ends _ _ ends.0).known in
    let acts = are_acts _ pairs.1 in
    let same_sites : map site_cut seen.sites ≡ seen.sites =
    map_same site_cut seen.sites no_site (λ i h. site_whole (get_or seen.sites i no_site) (position_none_at has_many_turns seen.sites i no_site are.few_turns h) (position_none_at has_large_act seen.sites i no_site acts.small_acts h)) in
    let same_edges : map (edge_cut (names_of seen.sites)) d.edges ≡ d.edges =
    map_same (edge_cut (names_of seen.sites)) d.edges no_edge
    (λ i h.
    let edge = get_or d.edges i no_edge in
    let both = ends_known MAX_TEXT_JOBS seen.sites are edge (position_none_at (has_unknown_end (length seen.sites)) d.edges i no_edge known h) in
    let value = small edge.value (value_small edge (position_none_at has_large_value d.edges i no_edge acts.small_values h)) in
    rw (number_within MAX_TEXT_JOBS seen.sites are edge.a both.0, number_within MAX_TEXT_JOBS seen.sites are edge.b both.1, value) refl) in
    rw (same_sites, same_edges) refl

-- a text that says the same is refused as what a text can say of the draft is
pub built_text : (text : List ℕ) (d : Draft) → Says text d → first_fault text ≡ first_of_draft (text_of d)
built_text text d says =
    ap fault_of says ∙ first_of_document (table (document_of (text_of d))) ∙ rw (form_met (text_of d), read_is_cut (text_of d)) (same_fault d)

-- of a draft whose sites have no more jobs than a text may have, a text can say all
site_same : (site : SeenDraftSite) → site.plain ≡ 0 → site_of_draft site ≡ site_in_text site
site_same site none =
    ap (λ (jobs : List SeenJob). record { name = site.name; jobs = jobs; resigns = site.resigns })
    (ap (λ n. jobs_of_draft site.jobs n) none ∙ append-nil (map job_of_draft site.jobs))

sites_same : (sites : List SeenDraftSite) → All (λ (site : SeenDraftSite). (length site.jobs ≤ MAX_TEXT_JOBS) × (site.plain ≡ 0)) sites → map site_of_draft sites ≡ map site_in_text sites
sites_same [] has = refl
sites_same (site ∷ sites) has = rw (site_same site (has 0 no_draft_site (omega arith)).1, sites_same sites (λ k d h. has (suc k) d (omega arith)))

few_enough : (limit : ℕ) (d : Draft) → MAX_TEXT_JOBS ≤ limit → HasTextJobs d → position (has_many_jobs limit) (map site_in_text d.sites) ≡ None
unfolding has_many_jobs
few_enough limit d enough has =
    position_none (has_many_jobs limit) (map site_in_text d.sites) no_site (λ k within.
    let inside : k < length d.sites = rw (length-map d.sites site_in_text) at within in
    let site = get_or d.sites k no_draft_site in
    let long : length (map job_of_draft site.jobs) ≡ length site.jobs = length-map site.jobs job_of_draft in
    let few : length site.jobs ≤ MAX_TEXT_JOBS = (has k no_draft_site inside).0 in
    rw (get_or-map site_in_text d.sites k no_draft_site no_site inside) (le-ltb limit (length (map job_of_draft site.jobs)) (omega arith)))

refusals_same : (d : Draft) → HasTextJobs d → site_refusals MAX_JOBS (map site_in_text d.sites) ≡ site_refusals MAX_TEXT_JOBS (map site_in_text d.sites)
unfolding site_refusals
refusals_same d has = rw (few_enough MAX_JOBS d (omega arith) has, few_enough MAX_TEXT_JOBS d (omega arith) has) refl

-- the draft with these sites
abbrev draft_with : Draft → List SeenSite → SeenDraft
draft_with d sites = record { version = 2; most_jobs = MAX_JOBS; sites = sites; edges = d.edges; two_acts = None; other_policy = None }

fault_same : (d : Draft) → HasTextJobs d → first_of_draft (text_of d) ≡ first_fault_of d
unfolding act_refusals
fault_same d has =
    first_of_groups (text_of d)
    ∙ sym (ap (λ sites. first_of_draft (draft_with d sites)) (sites_same d.sites has) ∙ first_of_groups (draft_with d (map site_in_text d.sites)) ∙ rw (refusals_same d has) refl)

-- so a text that says the same is refused for the same cause
pub built_fault : (text : List ℕ) (d : Draft) → Says text d → HasTextJobs d → first_fault text ≡ first_fault_of d
built_fault text d says has = built_text text d says ∙ fault_same d has

-- and has the same plan
pub built_plan : (text : List ℕ) (d : Draft) (p : SeenPlan) → Says text d → HasTextJobs d → first_fault_of d ≡ None → IsPlanOf text p ↔ (p ≡ plan_of_draft d)
built_plan text d p says has fine =
    let whole : plan_of (text_of d) ≡ plan_of_draft d = sym (ap (λ sites. plan_of (draft_with d sites)) (sites_same d.sites has)) in
    let same : plan_of_document (table (document_of (text_of d))) ≡ plan_of_draft d = ap plan_of (read_is_cut (text_of d) ∙ draft_whole d (fault_same d has ∙ fine)) ∙ whole in (
      λ of. of.2 ∙ ap (λ doc. plan_of_document (table doc)) (ap (λ o. unwrap_or o (document_of (text_of d))) (sym of.1 ∙ says)) ∙ same,
      λ draft. (document_of (text_of d), says, draft ∙ sym same),
    )
