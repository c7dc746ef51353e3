-- The commands of the program, as `clap` finds them in the arguments.
use Rattle.std.specs.Prelude.{◌≡◌, ◌⊎◌, ◌&&◌, ℕ, Bool, List, [], Option, Some, None, codes, if◌then◌else◌, is_some, option_map, true}
use Rattle.std.specs.Option.{option_map_or}
use Rattle.std.specs.Str.{bytes_eq}
use Rattle.clap.specs.Words.{App, Row, Rule, Text, fault_of, first_of, new_app, new_rule, subcommand_of, takes, with_rule, with_subcommand}
use Rattle.clap.specs.declared.builder.action.ArgAction.TheVariants.{Set}
use Rattle.clap.specs.Simple.{on_top}
use Rattle.clap.specs.declared.error.kind.ErrorKind.{ErrorKind}
use Rattle.clap.specs.declared.error.kind.ErrorKind.TheVariants.{OutOfMemory}
use Rattle.dine_words.specs.Choices.{choices_of}
use Rattle.dine_words.specs.declared.words.Command.{Command}
use Rattle.dine_words.specs.declared.words.Command.TheVariants.{Check, Replay, Run}
use Rattle.dine_words.specs.declared.words.Links.{Links}
use Rattle.dine_words.specs.declared.words.Links.TheVariants.{Channel, Ring}
use Rattle.dine_words.specs.declared.words.Table.{Table}
use Rattle.dine_words.specs.declared.words.Table.TheVariants.{Edges, Sites}
use Rattle.dine_words.specs.declared.words.WordsFault.{WordsFault}
use Rattle.dine_words.specs.declared.words.WordsFault.TheVariants.{Usage, Memory}

-- `dine`, which needs no subcommand and has no help of its own
abbrev pub program_alone : App
program_alone = on_top (λ s. record s {
  disable_help_flag = true;
  disable_help_subcommand = true;
}) (new_app (codes "dine"))

-- an option of this name, which takes a text
abbrev pub option_rule : Text → Rule
option_rule name = record (new_rule name) { long = Some name; action = Some Set }

-- the option `--table` of `run`, which takes a text
abbrev pub table_rule : Rule
table_rule = option_rule (codes "table")

-- the option `--links` of `run`, which takes a text
abbrev pub links_rule : Rule
links_rule = option_rule (codes "links")

-- the command `run`, with its two options
abbrev pub run_app : App
run_app = with_rule (with_rule (new_app (codes "run")) table_rule) links_rule

-- the option `--choices` of `replay`, which takes a text
abbrev pub choices_rule : Rule
choices_rule = option_rule (codes "choices")

-- the command `replay`, with its option
abbrev pub replay_app : App
replay_app = with_rule (new_app (codes "replay")) choices_rule

-- `dine` with its subcommands, as `clap` sees it
abbrev pub dine_app : App
dine_app = with_subcommand (with_subcommand (with_subcommand program_alone run_app.top) replay_app.top) (new_app (codes "check")).top

-- a request: a run with this table over links of this kind, a replay of these choices, or a check of the plan
pub data Asked : Type 0 where
  Runs : Table → Links → Asked
  Replays : List ℕ → Asked
  Checks : Asked

-- the request of a `Command` of the code
abbrev pub asked_of : Command → Asked
asked_of (Run table links) = Runs table links
asked_of (Replay choices) = Replays choices.items
asked_of Check = Checks

-- the table of a name, `edges` or `sites`
abbrev pub table_of : Text → Option Table
table_of name =
    if bytes_eq name (codes "edges") then Some Edges
    else (if bytes_eq name (codes "sites") then Some Sites else None)

-- the table in what `clap` finds behind `run`: that of edges without the option, and else the table that has the text
-- of the option as its name, if there is one
abbrev pub table_in : List Row → Option Table
table_in found = option_map_or table_of (first_of (codes "table") found) (Some Edges)

-- the kind of links of a name, `channel` or `ring`
abbrev pub links_of : Text → Option Links
links_of name =
    if bytes_eq name (codes "channel") then Some Channel
    else (if bytes_eq name (codes "ring") then Some Ring else None)

-- the kind of links in what `clap` finds behind `run`: rings without the option, and else the kind that has the text of
-- the option as its name, if there is one
abbrev pub links_in : List Row → Option Links
links_in found = option_map_or links_of (first_of (codes "links") found) (Some Ring)

-- a run, if there is a table and a kind of links
abbrev pub runs_with : Option Table → Option Links → Option Asked
runs_with (Some table) (Some links) = Some (Runs table links)
runs_with _ _ = None

-- the run in what `clap` finds behind `run`
abbrev pub run_in : List Row → Option Asked
run_in found = runs_with (table_in found) (links_in found)

-- the choices in what `clap` finds behind `replay`: an empty list without the option, and else those of the text of the
-- option, if it has that form
abbrev pub choices_in : List Row → Option (List ℕ)
choices_in found = option_map_or choices_of (first_of (codes "choices") found) (Some [])

-- a name of a command
abbrev pub IsCommandName : Text → Type 0
IsCommandName name = (name ≡ codes "run") ⊎ ((name ≡ codes "replay") ⊎ (name ≡ codes "check"))

-- the request of a command of this name, with what `clap` finds behind the name
abbrev pub asked_by : Text × List Row → Option Asked
asked_by found =
    if bytes_eq found.0 (codes "run") then run_in found.1
    else (if bytes_eq found.0 (codes "replay") then option_map Replays (choices_in found.1)
    else (if bytes_eq found.0 (codes "check") then Some Checks else None))

-- the request of the command that `clap` finds, with what it finds behind the name; without one, it is a run with the
-- table of edges, over rings
abbrev pub command_found : Option (Text × List Row) → Option Asked
command_found found = option_map_or asked_by found (Some (Runs Edges Ring))

-- the request of the arguments
abbrev pub command_in : App → List Text → Option Asked
command_in app words = command_found (subcommand_of app words)

-- `clap` finds no fault in the arguments
abbrev pub HasNoFault : App → List Text → Type 0
HasNoFault app words = fault_of app words ≡ []

-- `clap` accepts the arguments, and they have a request: the text of `--table`, if there is one, names a table, that of
-- `--links` a kind of links, and that of `--choices` has choices
abbrev pub are_taken : App → List Text → Bool
are_taken app words = takes app words && is_some (command_in app words)

-- `clap` finds no fault in the arguments, and they have a request
abbrev pub AreRight : App → List Text → Type 0
AreRight app words = HasNoFault app words × (is_some (command_in app words) ≡ true)

-- the fault for a kind of error of `clap`: `Memory` if it is out of memory, and else `Usage`
abbrev pub fault_of_kind : ErrorKind → WordsFault
fault_of_kind OutOfMemory = Memory
fault_of_kind _ = Usage
