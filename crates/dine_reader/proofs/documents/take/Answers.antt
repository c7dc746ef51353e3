use Rattle.std.proofs.Common.{option_map, ap, sym, ◌∙◌}
use Rattle.toml.specs.Data.{get}
use Rattle.toml.specs.View.{view}
use Rattle.toml.proofs.Views.{view-lookup}
use Rattle.dine_reader.proofs.shared.DocumentLemmas.{view-Table}
use Rattle.dine_reader.proofs.documents.take.Goals as goal

pub returns-in-Table : goal.returns-in-Table
returns-in-Table c =
    ap (option_map view) c.remove.ensures.value ∙ view-lookup c.args.key.now c.in-Table.members.entries
    ∙ ap (get c.args.key.now) (sym (view-Table c.in-Table.members) ∙ ap view (sym c.in-Table.is))
