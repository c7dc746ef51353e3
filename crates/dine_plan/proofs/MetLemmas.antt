-- The document of a draft has the form that the format says.
use Rattle.std.proofs.Common.{◌≡◌, ℕ, Bool, true, false, not, ◌||◌, List, [], ◌∷◌, map, length, None, codes, refl}
use Rattle.std.specs.List.{list_any, list_all, position}
use Rattle.std.specs.Str.{bytes_eq}
use Rattle.std.proofs.lemmas.List.{length-map}
use Rattle.toml.specs.Data.{Data, table, array}
use Rattle.toml.specs.View.{items_of}
use Rattle.dine_token.specs.declared.act.Act.{Act}
use Rattle.dine_token.specs.declared.act.Act.TheVariants.{Add, Set}
use Rattle.dine_graph.specs.Plan.{SeenJob, SeenSite}
use Rattle.dine_draft.specs.Draft.{SeenDraft, names_of}
use Rattle.dine_draft.specs.Refusals.{first_some}
use Rattle.dine_draft.specs.declared.drafts.DraftEdge.{DraftEdge}
use Rattle.dine_draft.proofs.shared.ListLemmas.{list_any_false_at, position_none}
use Rattle.dine_reader.specs.Document.{is_second, sites_in, edges_in, jobs_in, text_at, items_at, number_at, has_key, has_both, has_two_acts, has_other_policy}
use Rattle.dine_reader.specs.RefusalFacts.{no_table}
use Rattle.dine_reader.specs.RefusalTests.{is_table, is_text, is_tables, is_two_texts, document_keys, site_keys, job_keys, edge_keys, has_other_key, lacks_key, is_wrong, form_refusals, refuses_version, site_has_other_key, refuses_unknown_key, site_lacks_key, refuses_missing_key, job_is_wrong, site_is_wrong, edge_is_wrong, refuses_wrong_kind}
use Rattle.dine_reader.proofs.shared.DocumentLemmas.{list_of-items_of}
use Rattle.dine_plan.specs.DraftDocument.{job_members_with, job_table, site_table, edge_table, policy_word, document_of}

-- what no table of a list passes, and what each of them passes
none_of : {X : Type 0} (p : Data → Bool) (f : X → Data) → ((x : X) → p (f x) ≡ false) → (xs : List X) → list_any p (map f xs) ≡ false
none_of p f none [] = refl
none_of p f none (x ∷ xs) = rw (none x, none_of p f none xs)

all_of : {X : Type 0} (p : Data → Bool) (f : X → Data) → ((x : X) → p (f x) ≡ true) → (xs : List X) → list_all p (map f xs) ≡ true
all_of p f all [] = refl
all_of p f all (x ∷ xs) = rw (all x, all_of p f all xs)

are_tables : {X : Type 0} (f : X → Data) → ((x : X) → is_table (f x) ≡ true) → (xs : List X) → is_tables (array (items_of (map f xs))) ≡ true
unfolding is_tables
are_tables f all xs = rw (list_of-items_of (map f xs), all_of is_table f all xs)

-- a job
job_keys_by : (job : SeenJob) (act : Act) → has_other_key (job_keys true) (table (job_members_with job act)) ≡ false
unfolding has_other_key
job_keys_by job (Add amount) = refl
job_keys_by job (Set amount) = refl

job_keys_known : (job : SeenJob) → has_other_key (job_keys true) (job_table job) ≡ false
unfolding job_table
job_keys_known job = job_keys_by job job.act

job_name_by : (job : SeenJob) (act : Act) → lacks_key (codes "name") (table (job_members_with job act)) ≡ false
unfolding lacks_key
job_name_by job (Add amount) = refl
job_name_by job (Set amount) = refl

job_named : (job : SeenJob) → lacks_key (codes "name") (job_table job) ≡ false
unfolding job_table
job_named job = job_name_by job job.act

job_right_by : (job : SeenJob) (act : Act) → job_is_wrong (table (job_members_with job act)) ≡ false
unfolding job_is_wrong is_wrong
job_right_by job (Add amount) = refl
job_right_by job (Set amount) = refl

job_right : (job : SeenJob) → job_is_wrong (job_table job) ≡ false
unfolding job_table
job_right job = job_right_by job job.act

job_act_by : (job : SeenJob) (act : Act) → has_both (table (job_members_with job act)) ≡ false
unfolding has_key
job_act_by job (Add amount) = refl
job_act_by job (Set amount) = refl

job_acts_once : (job : SeenJob) → has_both (job_table job) ≡ false
unfolding job_table
job_acts_once job = job_act_by job job.act

job_is_table : (job : SeenJob) → is_table (job_table job) ≡ true
unfolding job_table
job_is_table job = refl

-- a site
jobs_of_table : (site : SeenSite) → jobs_in (site_table site) ≡ map job_table site.jobs
unfolding items_at site_table
jobs_of_table site = list_of-items_of (map job_table site.jobs)

own_keys_known : (site : SeenSite) → has_other_key (site_keys true) (site_table site) ≡ false
unfolding has_other_key site_table
own_keys_known site = refl

site_keys_known : (site : SeenSite) → site_has_other_key true (site_table site) ≡ false
unfolding site_has_other_key
site_keys_known site = rw (own_keys_known site, jobs_of_table site, none_of (has_other_key (job_keys true)) job_table job_keys_known site.jobs)

own_name : (site : SeenSite) → lacks_key (codes "name") (site_table site) ≡ false
unfolding lacks_key site_table
own_name site = refl

site_named : (site : SeenSite) → site_lacks_key (site_table site) ≡ false
unfolding site_lacks_key
site_named site = rw (own_name site, jobs_of_table site, none_of (lacks_key (codes "name")) job_table job_named site.jobs)

own_name_is_text : (site : SeenSite) → is_wrong is_text (codes "name") (site_table site) ≡ false
unfolding is_wrong site_table
own_name_is_text site = refl

own_policy_is_text : (site : SeenSite) → is_wrong is_text (codes "on_fault") (site_table site) ≡ false
unfolding is_wrong site_table
own_policy_is_text site = refl

own_jobs : (site : SeenSite) → is_wrong is_tables (codes "jobs") (site_table site) ≡ false
unfolding is_wrong site_table
own_jobs site = rw (are_tables job_table job_is_table site.jobs)

site_right : (site : SeenSite) → site_is_wrong (site_table site) ≡ false
unfolding site_is_wrong
site_right site = rw (own_name_is_text site, own_policy_is_text site, own_jobs site, jobs_of_table site, none_of job_is_wrong job_table job_right site.jobs)

site_acts_once : (site : SeenSite) → has_two_acts (site_table site) ≡ false
unfolding has_two_acts
site_acts_once site = rw (jobs_of_table site, none_of has_both job_table job_acts_once site.jobs)

policy_known : (resigns : Bool) → not (bytes_eq (policy_word resigns) (codes "go") || bytes_eq (policy_word resigns) (codes "resign")) ≡ false
policy_known true = refl
policy_known false = refl

site_policy_known : (site : SeenSite) → has_other_policy (site_table site) ≡ false
unfolding has_other_policy has_key text_at site_table
site_policy_known site = rw (policy_known site.resigns)

site_is_table : (site : SeenSite) → is_table (site_table site) ≡ true
unfolding site_table
site_is_table site = refl

-- an edge
edge_keys_known : (names : List (List ℕ)) (edge : DraftEdge) → has_other_key (edge_keys true) (edge_table names edge) ≡ false
unfolding has_other_key edge_table
edge_keys_known names edge = refl

edge_has_ends : (names : List (List ℕ)) (edge : DraftEdge) → lacks_key (codes "ends") (edge_table names edge) ≡ false
unfolding lacks_key edge_table
edge_has_ends names edge = refl

edge_right : (names : List (List ℕ)) (edge : DraftEdge) → edge_is_wrong (edge_table names edge) ≡ false
unfolding edge_is_wrong is_wrong is_two_texts edge_table
edge_right names edge = refl

edge_is_table : (names : List (List ℕ)) (edge : DraftEdge) → is_table (edge_table names edge) ≡ true
unfolding edge_table
edge_is_table names edge = refl

-- the document
abbrev pub doc_of : SeenDraft → Data
doc_of d = table (document_of d)

pub sites_of_document : (d : SeenDraft) → sites_in (table (document_of d)) ≡ map site_table d.sites
unfolding items_at document_of
sites_of_document d = list_of-items_of (map site_table d.sites)

pub edges_of_document : (d : SeenDraft) → edges_in (table (document_of d)) ≡ map (edge_table (names_of d.sites)) d.edges
unfolding items_at document_of
edges_of_document d = list_of-items_of (map (edge_table (names_of d.sites)) d.edges)

version_known : (d : SeenDraft) → refuses_version (doc_of d) ≡ false
unfolding refuses_version document_of
version_known d = refl

second : (d : SeenDraft) → is_second (doc_of d) ≡ true
unfolding number_at document_of
second d = refl

document_keys_known : (d : SeenDraft) → has_other_key document_keys (doc_of d) ≡ false
unfolding has_other_key document_of
document_keys_known d = refl

keys_known : (d : SeenDraft) → refuses_unknown_key (doc_of d) ≡ false
unfolding refuses_unknown_key
keys_known d =
    let names = names_of d.sites in
    rw (
      document_keys_known d,
      second d,
      sites_of_document d,
      edges_of_document d,
      none_of (site_has_other_key true) site_table site_keys_known d.sites,
      none_of (has_other_key (edge_keys true)) (edge_table names) (edge_keys_known names) d.edges,
    )

keys_there : (d : SeenDraft) → refuses_missing_key (doc_of d) ≡ false
unfolding refuses_missing_key
keys_there d =
    let names = names_of d.sites in
    rw (
      sites_of_document d,
      edges_of_document d,
      none_of site_lacks_key site_table site_named d.sites,
      none_of (lacks_key (codes "ends")) (edge_table names) (edge_has_ends names) d.edges,
    )

site_list : (d : SeenDraft) → is_wrong is_tables (codes "site") (doc_of d) ≡ false
unfolding is_wrong document_of
site_list d = rw (are_tables site_table site_is_table d.sites)

edge_list : (d : SeenDraft) → is_wrong is_tables (codes "edge") (doc_of d) ≡ false
unfolding is_wrong document_of
edge_list d = rw (are_tables (edge_table (names_of d.sites)) (edge_is_table (names_of d.sites)) d.edges)

kinds_right : (d : SeenDraft) → refuses_wrong_kind (doc_of d) ≡ false
unfolding refuses_wrong_kind
kinds_right d =
    let names = names_of d.sites in
    rw (
      site_list d,
      edge_list d,
      sites_of_document d,
      edges_of_document d,
      none_of site_is_wrong site_table site_right d.sites,
      none_of edge_is_wrong (edge_table names) (edge_right names) d.edges,
    )

-- no cause holds in the form of the document
pub form_met : (d : SeenDraft) → first_some (form_refusals (doc_of d)) ≡ None
unfolding form_refusals
form_met d = rw (version_known d, keys_known d, keys_there d, kinds_right d) refl

position_none_of : {X : Type 0} (p : Data → Bool) (f : X → Data) → ((x : X) → p (f x) ≡ false) → (xs : List X) → position p (map f xs) ≡ None
position_none_of p f none xs =
    let long : length (map f xs) ≡ length xs = length-map xs f in
    position_none p (map f xs) no_table (λ k h. list_any_false_at p (map f xs) k no_table (none_of p f none xs) h)

-- no site of the document has two acts, or another policy
pub no_two_acts : (d : SeenDraft) → position has_two_acts (map site_table d.sites) ≡ None
no_two_acts d = position_none_of has_two_acts site_table site_acts_once d.sites

pub no_other_policy : (d : SeenDraft) → position has_other_policy (map site_table d.sites) ≡ None
no_other_policy d = position_none_of has_other_policy site_table site_policy_known d.sites
