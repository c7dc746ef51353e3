-- How deep the document of a draft nests, which is within what a reader of TOML takes.
use Rattle.std.proofs.Common.{ℕ, ◌≤◌, List, [], ◌∷◌, map, arith}
use Rattle.toml.specs.Data.{Data, depth, items_depth, members_depth}
use Rattle.toml.specs.View.{items_of}
use Rattle.dine_token.specs.declared.act.Act.{Act}
use Rattle.dine_token.specs.declared.act.Act.TheVariants.{Add, Set}
use Rattle.dine_draft.specs.declared.drafts.DraftEdge.{DraftEdge}
use Rattle.dine_graph.specs.Plan.{SeenJob, SeenSite}
use Rattle.dine_draft.specs.Draft.{SeenDraft, names_of}
use Rattle.dine_plan.specs.DraftDocument.{job_members_with, job_table, site_table, edge_table, document_of}

items_depth_most : {X : Type 0} (f : X → Data) (n : ℕ) → ((x : X) → depth (f x) ≤ n) → (xs : List X) → items_depth (items_of (map f xs)) ≤ n
items_depth_most f n most [] = omega arith
items_depth_most f n most (x ∷ xs) = grind (arith, most x, items_depth_most f n most xs)

act_depth : (job : SeenJob) (act : Act) → members_depth (job_members_with job act) ≤ 0
act_depth job (Add amount) = omega arith
act_depth job (Set amount) = omega arith

job_depth : (job : SeenJob) → depth (job_table job) ≤ 1
unfolding job_table
job_depth job = omega (arith, act_depth job job.act)

site_depth : (site : SeenSite) → depth (site_table site) ≤ 3
unfolding site_table
site_depth site = grind (arith, items_depth_most job_table 1 job_depth site.jobs)

edge_depth : (names : List (List ℕ)) (edge : DraftEdge) → depth (edge_table names edge) ≤ 2
unfolding edge_table
edge_depth names edge = grind arith

pub document_depth : (d : SeenDraft) → members_depth (document_of d) ≤ 4
unfolding document_of
document_depth d = grind (arith, items_depth_most site_table 3 site_depth d.sites, items_depth_most (edge_table (names_of d.sites)) 2 (edge_depth (names_of d.sites)) d.edges)
