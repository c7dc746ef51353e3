-- A plan text as data: the arrays of tables in it, and the values at their keys.
use Rattle.std.specs.Prelude.{ℕ, ◌==◌, min, ℤ, pos, negsuc, Bool, false, not, ◌&&◌, ◌||◌, List, [], ◌∷◌, is_some, option_and_then, unwrap_or, codes, if◌then◌else◌}
use Rattle.std.specs.Option.{option_map_or}
use Rattle.std.specs.List.{list_any}
use Rattle.std.specs.Str.{bytes_eq}
use Rattle.toml.specs.Data.{Data, Items, no_items, item, Members, no_members, member, get, at, as_str, as_integer, as_bool, as_array, as_table}
use Rattle.dine_token.specs.declared.act.Act.{Act}
use Rattle.dine_token.specs.declared.act.Act.TheVariants.{Add, Set}

-- the items of an array, in order
abbrev pub list_of : Items → List Data
list_of no_items = []
list_of (item d ds) = d ∷ list_of ds

-- the keys of a table, in order
abbrev pub keys_of : Members → List (List ℕ)
keys_of no_members = []
keys_of (member key d ms) = key ∷ keys_of ms

-- the items of an array; another value has none
abbrev pub items_in : Data → List Data
items_in d = option_map_or list_of (as_array d) []

-- the keys of a table; another value has none
abbrev pub keys_in : Data → List (List ℕ)
keys_in d = option_map_or keys_of (as_table d) []

-- the items of the array at a key; none if there is no array
unfoldable pub items_at : List ℕ → Data → List Data
items_at key d = option_map_or items_in (get key d) []

-- the text at a key; empty if there is no text
unfoldable pub text_at : List ℕ → Data → List ℕ
text_at key d = unwrap_or (option_and_then as_str (get key d)) []

-- the site tables of a document
abbrev pub sites_in : Data → List Data
sites_in = items_at (codes "site")

-- the edge tables of a document
abbrev pub edges_in : Data → List Data
edges_in = items_at (codes "edge")

-- the job tables of a site table
abbrev pub jobs_in : Data → List Data
jobs_in = items_at (codes "jobs")

-- the name of a site or a job
abbrev pub name_in : Data → List ℕ
name_in = text_at (codes "name")

-- the number, or 0 for one below 0
abbrev pub natural : ℤ → ℕ
natural (pos n) = n
natural (negsuc n) = 0

-- the whole number at a key; 0 if there is none, or one below 0
unfoldable pub number_at : List ℕ → Data → ℕ
number_at key d = option_map_or natural (option_and_then as_integer (get key d)) 0

-- there is a value at the key
unfoldable pub has_key : List ℕ → Data → Bool
has_key key d = is_some (get key d)

-- the document is of version 2 of the format
abbrev pub is_second : Data → Bool
is_second doc = number_at (codes "version") doc == 2

-- the version of a document that is not refused, 1 or 2
abbrev pub version_in : Data → ℕ
version_in doc = if is_second doc then 2 else 1

-- the turns of a job, 0 if it names none; a number above 4,294,967,295 is read as that, and is refused too
unfoldable pub turns_in : Data → ℕ
turns_in job = min (number_at (codes "turns") job) 4294967295

-- what a meal of a job does to a value: it sets, or else adds, and it adds 0 if the job names neither
unfoldable pub act_in : Data → Act
act_in job = if has_key (codes "set") job then Set (number_at (codes "set") job) else Add (number_at (codes "add") job)

-- the value of an edge, 0 if it names none
abbrev pub value_in : Data → ℕ
value_in = number_at (codes "value")

-- the `on_fault` of a site, empty if it has none
abbrev pub policy_in : Data → List ℕ
policy_in = text_at (codes "on_fault")

-- whether a site drops the jobs that it has left after one failed; not if it has no `on_fault`
unfoldable pub resigns_in : Data → Bool
resigns_in site = bytes_eq (policy_in site) (codes "resign")

-- whether a job fails; not if it has no `fails`
unfoldable pub fails_in : Data → Bool
fails_in job = unwrap_or (option_and_then as_bool (get (codes "fails") job)) false

-- the name at place i, 0 or 1, of an edge's ends
unfoldable pub end_in : ℕ → Data → List ℕ
end_in i edge = unwrap_or (option_and_then as_str (option_and_then (at i) (get (codes "ends") edge))) []

-- the job both adds and sets
abbrev pub has_both : Data → Bool
has_both job = has_key (codes "add") job && has_key (codes "set") job

-- cause 17: a job of the site both adds and sets
unfoldable pub has_two_acts : Data → Bool
has_two_acts site = list_any has_both (jobs_in site)

-- cause 20: the site's `on_fault` is neither "go" nor "resign"
unfoldable pub has_other_policy : Data → Bool
has_other_policy site = has_key (codes "on_fault") site && not (bytes_eq (policy_in site) (codes "go") || bytes_eq (policy_in site) (codes "resign"))
