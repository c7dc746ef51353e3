-- The plan of a builder's draft, and the cause to refuse it.
use Rattle.std.specs.Prelude.{ℕ, ◌+◌, ◌≤◌, ◌≡◌, List, ◌++◌, map, length, string_bytes, Option, None, ⊤, All}
use Rattle.std.specs.List.{range_with_len}
use Rattle.std.specs.Fmt.{decimal}
use Rattle.dine_token.specs.declared.limits.TheConstants.{MAX_JOBS}
use Rattle.dine_graph.specs.declared.limits.TheConstants.{MAX_TEXT_JOBS}
use Rattle.dine_graph.specs.Job.{plain_job, seen_job}
use Rattle.dine_graph.specs.declared.plans.Site.{Site}
use Rattle.dine_graph.specs.Plan.{SeenJob, SeenSite, SeenPlan}
use Rattle.dine_draft.specs.Draft.{SeenDraft, plan_of}
use Rattle.dine_draft.specs.declared.drafts.Draft.{Draft as ListedDraft}
use Rattle.dine_draft.specs.Refusals.{first_of_draft}
use Rattle.dine_draft.specs.declared.plan_fault.PlanFault.{PlanFault}
use Rattle.dine_draft.specs.declared.plan_fault.PlanFault.TheVariants.{NotToml, Version, UnknownKey, MissingKey, WrongKind, TwoActs, UnknownPolicy}
use Rattle.dine_builder.specs.declared.drafts.DraftJob.{DraftJob}
use Rattle.dine_builder.specs.Draft.{SeenDraftSite, Draft}

-- a job with its number as its name
abbrev pub job_of_draft : DraftJob → SeenJob
job_of_draft job = record { name = decimal job.number; turns = job.turns; fails = job.fails; act = job.act }

-- the jobs of a site: those that may be changed, and plain jobs after these, whose numbers go on
abbrev pub jobs_of_draft : List DraftJob → ℕ → List SeenJob
jobs_of_draft jobs n = map job_of_draft jobs ++ map plain_job (range_with_len (length jobs + 1) n)

-- a site with its jobs
abbrev pub site_of_draft : SeenDraftSite → SeenSite
site_of_draft site = record { name = site.name; jobs = jobs_of_draft site.jobs site.plain; resigns = site.resigns }

-- the draft with its jobs named, of version 2 of the format; no job has two acts, and no site another policy
abbrev pub draft_of : Draft → SeenDraft
draft_of d = record { version = 2; most_jobs = MAX_JOBS; sites = map site_of_draft d.sites; edges = d.edges; two_acts = None; other_policy = None }

-- the site that the fields of a `Site` describe, with the jobs of its list alone
abbrev pub listed_site : Site → SeenSite
listed_site site = record { name = string_bytes site.name; jobs = map seen_job site.jobs.items; resigns = site.resigns }

-- the draft that the fields of a `Draft` describe, as far as a text can say it
abbrev pub listed_draft : ListedDraft → SeenDraft
listed_draft d = record { version = d.version; most_jobs = MAX_TEXT_JOBS; sites = map listed_site d.sites.items; edges = d.edges.items; two_acts = d.two_acts; other_policy = d.other_policy }

-- a site with those jobs alone that may be changed
abbrev pub site_in_text : SeenDraftSite → SeenSite
site_in_text site = record { name = site.name; jobs = map job_of_draft site.jobs; resigns = site.resigns }

-- the draft that a text can say: of each site those jobs that may be changed, and at most as many jobs as a text may
-- have. A site with more jobs has more than that here too, so that the text is refused
abbrev pub text_of : Draft → SeenDraft
text_of d = record { version = 2; most_jobs = MAX_TEXT_JOBS; sites = map site_in_text d.sites; edges = d.edges; two_acts = None; other_policy = None }

-- no site has more jobs than a text may have
abbrev pub HasTextJobs : Draft → Type 0
HasTextJobs d = All (λ (site : SeenDraftSite). (length site.jobs ≤ MAX_TEXT_JOBS) × (site.plain ≡ 0)) d.sites

-- the plan of a draft; if the draft is refused, this means nothing
abbrev pub plan_of_draft : Draft → SeenPlan
plan_of_draft d = plan_of (draft_of d)

-- the first cause to refuse a draft, at the least position; none if no cause holds
abbrev pub first_fault_of : Draft → Option PlanFault
first_fault_of d = first_of_draft (draft_of d)

-- the causes for which a draft may be refused: those in its names, numbers and edges, and `Memory`
abbrev pub IsOfDraft : PlanFault → Type 0
IsOfDraft NotToml = ⊥
IsOfDraft Version = ⊥
IsOfDraft UnknownKey = ⊥
IsOfDraft MissingKey = ⊥
IsOfDraft WrongKind = ⊥
IsOfDraft (TwoActs site) = ⊥
IsOfDraft (UnknownPolicy site) = ⊥
IsOfDraft _ = ⊤
