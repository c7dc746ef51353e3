-- The text of `replay`. Numbers are plain decimal.
use Rattle.std.specs.Prelude.{ℕ, ◌==◌, if◌then◌else◌, Bool, true, false, List, [], ◌∷◌, ◌++◌, codes}
use Rattle.std.specs.Fmt.{decimal}
use Rattle.std.specs.List.{flat_map, range_with_len}
use Rattle.dine_token.specs.declared.log_entry.Entry.{Entry}
use Rattle.dine_token.specs.declared.log_entry.Entry.TheVariants.{Meal, Move}
use Rattle.dine_graph.specs.Plan.{SeenPlan, edge_count, ends_of, name_of}
use Rattle.dine_world.specs.Bound.{bound_of}
use Rattle.dine_world.specs.Precedence.{fork_log}
use Rattle.dine_world.specs.Values.{value_by}
use Rattle.dine_world.specs.World.{WorldState}

-- the text before an entry: a space before the first entry of a line, and a comma and a space before each other one
abbrev pub separator : Bool → List ℕ
separator true = codes " "
separator false = codes ", "

module _ (named : ℕ → List ℕ) where
  -- meal k of a site is its name, `#` and k, and a Move is `to` and the name of the site
  abbrev pub entry_text : Entry → List ℕ
  entry_text (Meal site k) = named site ++ codes "#" ++ decimal k
  entry_text (Move to) = codes "to " ++ named to

  -- the entries, each after a separator: this one before the first, and a comma and a space before each other one
  abbrev pub entries_text : List ℕ → List Entry → List ℕ
  entries_text separator [] = []
  entries_text separator (entry ∷ log) = separator ++ entry_text entry ++ entries_text (codes ", ") log

  -- the line of an edge: its number, the names of its ends, the lower first, a colon, the entries of its log, and the
  -- text of its value
  abbrev pub edge_line : ℕ → ℕ × ℕ → List Entry → List ℕ → List ℕ
  edge_line edge ends log value = codes "edge " ++ decimal edge ++ codes " " ++ named ends.0 ++ codes " " ++ named ends.1 ++ codes ":" ++ entries_text (codes " ") log ++ value ++ codes "\n"

-- the last line: the number of events that took effect, and its bound
abbrev pub events_line : ℕ → ℕ → List ℕ
events_line events bound = codes "events " ++ decimal events ++ codes " of " ++ decimal bound ++ codes "\n"

-- the text of the value of an edge: an equals sign and the value in version 2, and nothing in version 1
abbrev pub value_text : SeenPlan → ℕ → List ℕ
value_text plan value = if plan.version == 2 then codes " = " ++ decimal value else []

-- The texts of a world of `shown`, which is the plan, or the plan with other outcomes of its jobs.
module _ (plan shown : SeenPlan) where
  -- the line of an edge of the plan, by the log of its fork, and with the value that the log gives
  abbrev pub line_of_edge : WorldState → ℕ → List ℕ
  line_of_edge world edge = edge_line (name_of plan) edge (ends_of plan edge) (fork_log shown world edge) (value_text plan (value_by shown edge (fork_log shown world edge)))

  -- the lines of all edges, in order
  abbrev pub edge_lines : WorldState → List ℕ
  edge_lines world = flat_map (line_of_edge world) (range_with_len 0 (edge_count plan))

  -- the text of the world: the lines of all edges, and the last line
  abbrev pub world_text : WorldState → ℕ → List ℕ
  world_text world events = edge_lines world ++ events_line events (bound_of shown)
