-- Why a plan text is refused: each cause in its form as a test of the whole document; then those of its draft; and the
-- first that holds.
use Rattle.std.specs.Prelude.{ℕ, ◌==◌, ℤ, pos, negsuc, Bool, true, false, not, ◌&&◌, ◌||◌, is_none, is_some, List, [], ◌∷◌, ◌++◌, length, Option, Some, None, codes}
use Rattle.std.specs.Option.{option_map_or}
use Rattle.std.specs.List.{list_any, list_all}
use Rattle.std.specs.Str.{bytes_eq}
use Rattle.toml.specs.Data.{Data, table, Members, get, as_str, as_integer, as_bool, as_array, as_table}
use Rattle.toml.specs.Parse.{parse_document}
use Rattle.dine_draft.specs.Refusals.{draft_refusals, first_some, on}
use Rattle.dine_draft.specs.declared.plan_fault.PlanFault.{PlanFault}
use Rattle.dine_draft.specs.declared.plan_fault.PlanFault.TheVariants as fault
use Rattle.dine_reader.specs.Document.{items_in, keys_in, sites_in, edges_in, jobs_in, is_second}
use Rattle.dine_reader.specs.PlanOf.{draft_of}

-- the value is a table
abbrev pub is_table : Data → Bool
is_table d = is_some (as_table d)

-- the value is a text
abbrev pub is_text : Data → Bool
is_text d = is_some (as_str d)

-- the value is true or false
abbrev pub is_truth : Data → Bool
is_truth d = is_some (as_bool d)

-- the number is not below 0
abbrev pub is_natural : ℤ → Bool
is_natural (pos n) = true
is_natural (negsuc n) = false

-- the number is 1 or 2
abbrev pub is_one_or_two : ℤ → Bool
is_one_or_two (pos n) = (n == 1) || (n == 2)
is_one_or_two (negsuc n) = false

-- the value is a whole number that is not below 0
abbrev pub is_whole : Data → Bool
is_whole d = option_map_or is_natural (as_integer d) false

-- the value is the whole number 1 or 2
abbrev pub is_version : Data → Bool
is_version d = option_map_or is_one_or_two (as_integer d) false

-- the value is an array whose items are tables
unfoldable pub is_tables : Data → Bool
is_tables d = is_some (as_array d) && list_all is_table (items_in d)

-- the value is an array of exactly two texts; a value that is no array has no items
unfoldable pub is_two_texts : Data → Bool
is_two_texts d = (length (items_in d) == 2) && list_all is_text (items_in d)

-- the keys that the format names for a document
abbrev pub document_keys : List (List ℕ)
document_keys = codes "version" ∷ codes "site" ∷ codes "edge" ∷ []

-- the keys that the format names for a site, in version 2 or in version 1
abbrev pub site_keys : Bool → List (List ℕ)
site_keys true = codes "name" ∷ codes "jobs" ∷ codes "on_fault" ∷ []
site_keys false = codes "name" ∷ codes "jobs" ∷ []

-- the keys that the format names for a job, in version 2 or in version 1
abbrev pub job_keys : Bool → List (List ℕ)
job_keys true = codes "name" ∷ codes "turns" ∷ codes "fails" ∷ codes "add" ∷ codes "set" ∷ []
job_keys false = codes "name" ∷ codes "turns" ∷ codes "fails" ∷ []

-- the keys that the format names for an edge, in version 2 or in version 1
abbrev pub edge_keys : Bool → List (List ℕ)
edge_keys true = codes "ends" ∷ codes "value" ∷ []
edge_keys false = codes "ends" ∷ []

-- the table has a key that is none of these
unfoldable pub has_other_key : List (List ℕ) → Data → Bool
has_other_key keys d = list_any (λ key. not (list_any (bytes_eq key) keys)) (keys_in d)

-- the table has no such key
unfoldable pub lacks_key : List ℕ → Data → Bool
lacks_key key d = is_table d && is_none (get key d)

-- the table has the key, and the value there is of another kind
unfoldable pub is_wrong : (Data → Bool) → List ℕ → Data → Bool
is_wrong kind key d = option_map_or (λ v. not (kind v)) (get key d) false

-- cause 2: `version` is absent or is not the whole number 1 or 2
unfoldable pub refuses_version : Data → Bool
refuses_version doc = not (option_map_or is_version (get (codes "version") doc) false)

-- a site or one of its jobs has a key that the format does not name for it, in version 2 or in version 1
unfoldable pub site_has_other_key : Bool → Data → Bool
site_has_other_key second site = has_other_key (site_keys second) site || list_any (has_other_key (job_keys second)) (jobs_in site)

-- cause 3: the document, a site, a job or an edge has a key that the format does not name for it in the document's
-- version
unfoldable pub refuses_unknown_key : Data → Bool
refuses_unknown_key doc =
    has_other_key document_keys doc || list_any (site_has_other_key (is_second doc)) (sites_in doc) || list_any (has_other_key (edge_keys (is_second doc))) (edges_in doc)

-- a site or one of its jobs has no name
unfoldable pub site_lacks_key : Data → Bool
site_lacks_key site = lacks_key (codes "name") site || list_any (lacks_key (codes "name")) (jobs_in site)

-- cause 4: a site or a job has no name, or an edge has no ends
unfoldable pub refuses_missing_key : Data → Bool
refuses_missing_key doc = list_any site_lacks_key (sites_in doc) || list_any (lacks_key (codes "ends")) (edges_in doc)

-- a value of a job is of another kind than the format names for its key
unfoldable pub job_is_wrong : Data → Bool
job_is_wrong job = is_wrong is_text (codes "name") job || is_wrong is_whole (codes "turns") job || is_wrong is_truth (codes "fails") job || is_wrong is_whole (codes "add") job || is_wrong is_whole (codes "set") job

-- a value of a site or of one of its jobs is of another kind than the format names for its key
unfoldable pub site_is_wrong : Data → Bool
site_is_wrong site = is_wrong is_text (codes "name") site || is_wrong is_text (codes "on_fault") site || is_wrong is_tables (codes "jobs") site || list_any job_is_wrong (jobs_in site)

-- a value of an edge is of another kind than the format names for its key
unfoldable pub edge_is_wrong : Data → Bool
edge_is_wrong edge = is_wrong is_two_texts (codes "ends") edge || is_wrong is_whole (codes "value") edge

-- cause 5: a value is of another kind than the format names for its key
unfoldable pub refuses_wrong_kind : Data → Bool
refuses_wrong_kind doc = is_wrong is_tables (codes "site") doc || is_wrong is_tables (codes "edge") doc || list_any site_is_wrong (sites_in doc) || list_any edge_is_wrong (edges_in doc)

-- causes 2 to 5, in the form of the document, each if it holds, in order
unfoldable pub form_refusals : Data → List (Option PlanFault)
form_refusals doc =
    on (refuses_version doc) fault.Version
    ∷ on (refuses_unknown_key doc) fault.UnknownKey
    ∷ on (refuses_missing_key doc) fault.MissingKey
    ∷ on (refuses_wrong_kind doc) fault.WrongKind
    ∷ []

-- the first refusal of a document that holds, at the least position
unfoldable pub first_refusal : Data → Option PlanFault
first_refusal doc = first_some (form_refusals doc ++ draft_refusals (draft_of doc))

-- the first refusal of a document that holds; if the text is no document, that it is no TOML, cause 1
abbrev pub fault_of : Option Members → Option PlanFault
fault_of None = Some fault.NotToml
fault_of (Some doc) = first_refusal (table doc)

-- the first cause to refuse a text that holds, at the least position; none if no cause does
abbrev pub first_fault : List ℕ → Option PlanFault
first_fault text = fault_of (parse_document text)
