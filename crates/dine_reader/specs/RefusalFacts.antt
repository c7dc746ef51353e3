-- The causes to refuse a document, each as a fact of the whole document, and the first of them. The law
-- `first_refusal_is_first` joins them with `first_refusal`.
use Rattle.std.specs.Prelude.{◌≡◌, ℕ, ◌<◌, ◌≤◌, ◌⊎◌, Bool, IsTrue, List, [], map, length, slice_index_or, Option, None}
use Rattle.std.specs.Str.{bytes_eq}
use Rattle.toml.specs.Data.{Data, table, no_members}
use Rattle.dine_graph.specs.declared.limits.TheConstants.{MAX_EDGES, MAX_SITES, MAX_TEXT_JOBS}
use Rattle.dine_graph.specs.Plan.{SeenSite, no_site}
use Rattle.dine_draft.specs.Draft.{names_of}
use Rattle.dine_draft.specs.Fault.{number_of_fault, position_of_fault}
use Rattle.dine_draft.specs.Refusals.{has_bad_name, has_many_jobs, has_many_turns, has_unknown_end, joined_by, is_loop, same_ends, stands_before, has_large_act, has_large_value}
use Rattle.dine_draft.specs.declared.drafts.DraftEdge.{DraftEdge}
use Rattle.dine_draft.specs.declared.plan_fault.PlanFault.{PlanFault}
use Rattle.dine_draft.specs.declared.plan_fault.PlanFault.TheVariants.{NotToml, Version, UnknownKey, MissingKey, WrongKind, BadName, SiteTwice, NoSite, TooManySites, TooManyJobs, TurnsTooLarge, UnknownEnd, Loop, EdgeTwice, TooManyEdges, TwoActs, ActTooLarge, ValueTooLarge, UnknownPolicy, Memory}
use Rattle.dine_reader.specs.Document.{sites_in, has_two_acts, has_other_policy}
use Rattle.dine_reader.specs.PlanOf.{draft_of}
use Rattle.dine_reader.specs.RefusalTests.{refuses_version, refuses_unknown_key, refuses_missing_key, refuses_wrong_kind}

-- the table that is read past the end of a list; no clause depends on it
abbrev pub no_table : Data
no_table = table no_members

-- the edge that is read past the end of a list; no clause depends on it
abbrev pub no_edge : DraftEdge
no_edge = record { a = 0; b = 0; value = 0 }

-- there is an item at the position, from 0, and it passes the test; `none` is read past the end
abbrev pub PassesAt : {A : Type 0} → (A → Bool) → A → List A → ℕ → Type 0
PassesAt test none items i = (i < length items) × IsTrue (test (slice_index_or items i none))

-- the sites of the draft of a document, in order
abbrev pub drafted_sites : Data → List SeenSite
drafted_sites doc = (draft_of doc).sites

-- the edges of that draft, in order
abbrev pub drafted_edges : Data → List DraftEdge
drafted_edges doc = (draft_of doc).edges

-- the names of the sites, in order
abbrev pub site_names : Data → List (List ℕ)
site_names doc = names_of (drafted_sites doc)

-- the number of sites
abbrev pub count_of : Data → ℕ
count_of doc = length (drafted_sites doc)

-- for each edge the two sites that it joins, none if an end is the name of no site
abbrev pub joined_pairs : Data → List (Option (ℕ × ℕ))
joined_pairs doc = map (joined_by (count_of doc)) (drafted_edges doc)

-- the fault holds of the document, at its position if it has one
abbrev pub Refuses : Data → PlanFault → Type 0
Refuses doc NotToml = ⊥
Refuses doc Version = IsTrue (refuses_version doc)
Refuses doc UnknownKey = IsTrue (refuses_unknown_key doc)
Refuses doc MissingKey = IsTrue (refuses_missing_key doc)
Refuses doc WrongKind = IsTrue (refuses_wrong_kind doc)
Refuses doc (BadName site) = PassesAt has_bad_name no_site (drafted_sites doc) site
Refuses doc (SiteTwice site) = (site < length (site_names doc)) × IsTrue (stands_before bytes_eq [] (site_names doc) site)
Refuses doc NoSite = count_of doc ≡ 0
Refuses doc TooManySites = MAX_SITES < count_of doc
Refuses doc (TooManyJobs site) = PassesAt (has_many_jobs MAX_TEXT_JOBS) no_site (drafted_sites doc) site
Refuses doc (TurnsTooLarge site) = PassesAt has_many_turns no_site (drafted_sites doc) site
Refuses doc (UnknownEnd edge) = PassesAt (has_unknown_end (count_of doc)) no_edge (drafted_edges doc) edge
Refuses doc (Loop edge) = PassesAt (is_loop (count_of doc)) no_edge (drafted_edges doc) edge
Refuses doc (EdgeTwice edge) = (edge < length (joined_pairs doc)) × IsTrue (stands_before same_ends None (joined_pairs doc) edge)
Refuses doc TooManyEdges = MAX_EDGES < length (drafted_edges doc)
Refuses doc (TwoActs site) = PassesAt has_two_acts no_table (sites_in doc) site
Refuses doc (ActTooLarge site) = PassesAt has_large_act no_site (drafted_sites doc) site
Refuses doc (ValueTooLarge edge) = PassesAt has_large_value no_edge (drafted_edges doc) edge
Refuses doc (UnknownPolicy site) = PassesAt has_other_policy no_table (sites_in doc) site
Refuses doc Memory = ⊥

-- f is an earlier cause in the list than g, or the same cause at no greater position
abbrev pub IsNoLater : PlanFault → PlanFault → Type 0
IsNoLater f g = (number_of_fault f < number_of_fault g) ⊎ ((number_of_fault f ≡ number_of_fault g) × (position_of_fault f ≤ position_of_fault g))

-- f is the first fault that holds of the document, at the least position
pub record IsFirst (doc : Data) (f : PlanFault) : Type 0 where
  pub holds : Refuses doc f
  pub first : (g : PlanFault) → Refuses doc g → IsNoLater f g
