-- The document of a draft, and the texts that say the same.
use Rattle.std.specs.Prelude.{◌≡◌, ℕ, min, pos, Bool, List, [], map, slice_index_or, Some, codes, if◌then◌else◌}
use Rattle.toml.specs.Data.{Data, string, integer, boolean, array, table, no_items, item, Members, no_members, member}
use Rattle.toml.specs.Parse.{parse_document}
use Rattle.toml.specs.View.{items_of}
use Rattle.dine_token.specs.declared.act.Act.{Act}
use Rattle.dine_token.specs.declared.act.Act.TheVariants.{Add, Set}
use Rattle.dine_graph.specs.Plan.{SeenJob, SeenSite}
use Rattle.dine_draft.specs.Draft.{SeenDraft, names_of}
use Rattle.dine_draft.specs.declared.drafts.DraftEdge.{DraftEdge}
use Rattle.dine_builder.specs.Draft.{Draft}
use Rattle.dine_builder.specs.DraftPlan.{text_of}

-- a whole number as a text writes it; one above the greatest that TOML has is written as that one, which each limit
-- refuses too
abbrev pub whole : ℕ → Data
whole n = integer (pos (min n 9223372036854775807))

-- the keys of a job from "fails" to "name", before those that come after
abbrev pub job_members : SeenJob → Members → Members
job_members job rest = member (codes "fails") (boolean job.fails) (member (codes "name") (string job.name) rest)

-- the job table with all keys of a job that does this to values
abbrev pub job_members_with : SeenJob → Act → Members
job_members_with job (Add amount) = member (codes "add") (whole amount) (job_members job (member (codes "turns") (whole job.turns) no_members))
job_members_with job (Set amount) = job_members job (member (codes "set") (whole amount) (member (codes "turns") (whole job.turns) no_members))

-- the table of a job
unfoldable pub job_table : SeenJob → Data
job_table job = table (job_members_with job job.act)

-- the `on_fault` of a site
abbrev pub policy_word : Bool → List ℕ
policy_word resigns = if resigns then codes "resign" else codes "go"

-- the table of a site
unfoldable pub site_table : SeenSite → Data
site_table site =
    table (member (codes "jobs") (array (items_of (map job_table site.jobs)))
    (member (codes "name") (string site.name)
    (member (codes "on_fault") (string (policy_word site.resigns)) no_members)))

-- the text of an end: the name of the site, or, if there is no site of this number, the empty text, which is no site's
-- name
abbrev pub end_name : List (List ℕ) → ℕ → List ℕ
end_name names s = slice_index_or names s []

-- the table of an edge between sites of these names
unfoldable pub edge_table : List (List ℕ) → DraftEdge → Data
edge_table names edge =
    table (member (codes "ends") (array (item (string (end_name names edge.a)) (item (string (end_name names edge.b)) no_items)))
    (member (codes "value") (whole edge.value) no_members))

-- the document of a draft, of version 2 of the format
unfoldable pub document_of : SeenDraft → Members
document_of d =
    member (codes "edge") (array (items_of (map (edge_table (names_of d.sites)) d.edges)))
    (member (codes "site") (array (items_of (map site_table d.sites)))
    (member (codes "version") (integer (pos 2)) no_members))

-- the text says the same as a builder's draft: it reads as the document of what a text can say of the draft
abbrev pub Says : List ℕ → Draft → Type 0
Says text d = parse_document text ≡ Some (document_of (text_of d))
