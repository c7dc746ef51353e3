-- The words that say what to mend in a draft: what the cause is about, and a sentence.
use Rattle.std.specs.Prelude.{ℕ, List, [], ◌++◌, length, codes, if◌then◌else◌}
use Rattle.std.specs.Fmt.{decimal}
use Rattle.dine_draft.specs.declared.plan_fault.PlanFault.{PlanFault}
use Rattle.dine_draft.specs.declared.plan_fault.PlanFault.TheVariants.{TooManyJobs}
use Rattle.dine_draft.specs.declared.plan_fault.About.{About}
use Rattle.dine_draft.specs.declared.plan_fault.About.TheVariants as about
use Rattle.dine_draft.specs.Fault.{about_of, sentence_of}
use Rattle.dine_builder.specs.Draft.{Draft, edge_at, has_edge, has_site, site_at}

-- the number of a site and, if the draft has it, its name
abbrev pub site_words : Draft → ℕ → List ℕ
site_words d s = if has_site s d then codes "site " ++ decimal s ++ codes ", \"" ++ (site_at s d).name ++ codes "\": " else codes "site " ++ decimal s ++ codes ": "

-- the number of an edge and, if the draft has it, its ends as they were given, and the number of sites
abbrev pub edge_words : Draft → ℕ → List ℕ
edge_words d e = if has_edge e d then codes "edge " ++ decimal e ++ codes ", between sites " ++ decimal (edge_at e d).a ++ codes " and " ++ decimal (edge_at e d).b ++ codes " (number of sites: " ++ decimal (length d.sites) ++ codes "): " else codes "edge " ++ decimal e ++ codes ": "

-- the number of sites, and of edges
abbrev pub counts_words : Draft → List ℕ
counts_words d = codes "number of sites: " ++ decimal (length d.sites) ++ codes ", number of edges: " ++ decimal (length d.edges) ++ codes "; "

-- what a cause is about: a site, an edge, or how many there are; nothing if it is about the form of a text or memory
abbrev pub place_words : Draft → About → List ℕ
place_words d (about.Site site) = site_words d site
place_words d (about.Edge edge) = edge_words d edge
place_words d about.Counts = counts_words d
place_words d about.Text = []

-- what is wrong: the sentence of the cause, or, if it is about a number of jobs, the limit of plans that are built
abbrev pub sentence_for : PlanFault → List ℕ
sentence_for (TooManyJobs site) = codes "it has more than 4,294,967,295 jobs"
sentence_for fault = sentence_of fault

-- the words for a cause: what it is about, and what is wrong
abbrev pub explanation : Draft → PlanFault → List ℕ
explanation d fault = place_words d (about_of fault) ++ sentence_for fault
