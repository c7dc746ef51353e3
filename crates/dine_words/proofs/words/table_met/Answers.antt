-- The name of the table is the first value that `clap` found.
use Rattle.std.proofs.Common.{◌∙◌, ap, sym, Some, Option, List, ℕ, codes, option_map, Bor}
use Rattle.std.specs.Option.{option_map_or}
use Rattle.clap.specs.Words.{found_of}
use Rattle.clap.proofs.WalkLemmas.{first_value-rows}
use Rattle.dine_words.specs.Words.{table_of}
use Rattle.dine_words.specs.declared.words.Table.{Table}
use Rattle.dine_words.specs.declared.words.Table.TheVariants.{Edges}
use Rattle.dine_words.proofs.words.table_met.Goals as goal

abbrev table_at : Option (List ℕ) → Option Table
table_at text = option_map_or table_of text (Some Edges)

abbrev seen : Option (Bor (List ℕ)) → Option (List ℕ)
seen = option_map (λ text. text.now)

pub returns-in-Some : goal.returns-in-Some
returns-in-Some c =
    let met = first_value-rows (found_of c.args.matches.now) (codes "table") in
    c.table_of.ensures ∙ sym (ap table_at (sym met ∙ sym c.get_str.ensures ∙ ap seen c.in-Some.is))

pub returns-in-None : goal.returns-in-None
returns-in-None c =
    let met = first_value-rows (found_of c.args.matches.now) (codes "table") in
    sym (ap table_at (sym met ∙ sym c.get_str.ensures ∙ ap seen c.in-None.is))
