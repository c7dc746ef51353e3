use Rattle.std.proofs.Common.{map, ap, ◌∙◌, sym}
use Rattle.toml.specs.View.{view}
use Rattle.dine_reader.specs.Document.{items_in}
use Rattle.dine_reader.proofs.shared.DocumentLemmas.{list_of-items_of, view-Array}
use Rattle.dine_reader.proofs.documents.items_of.Goals as goal

pub returns-in-Array : goal.returns-in-Array
returns-in-Array c =
    let items = c.in-Array.items in
    sym (list_of-items_of (map view items.items)) ∙ ap items_in (sym (view-Array items) ∙ ap view (sym c.in-Array.is))
