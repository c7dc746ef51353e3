use Rattle.std.proofs.Common.{◌≡◌, map, take}
use Rattle.toml.specs.View.{view}
use Rattle.dine_draft.specs.Draft.{names_of}
use Rattle.dine_plan.specs.DraftDocument.{edge_table}
use Rattle.dine_builder.specs.DraftPlan.{listed_site}
use Rattle.dine_plan.proofs.texts.edge_tables.Given as goal

abbrev pub invariant-loop-edge : goal.invariant-loop-edge
invariant-loop-edge l = map view l.tables.items ≡ map (edge_table (names_of (map listed_site l.sites))) (take l.edge-index l.edges)
