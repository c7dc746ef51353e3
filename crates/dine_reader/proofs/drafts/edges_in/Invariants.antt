use Rattle.std.proofs.Common.{◌≡◌, map, take}
use Rattle.toml.specs.View.{view}
use Rattle.dine_reader.specs.PlanOf.{edge_in}
use Rattle.dine_reader.proofs.ReadLemmas.{names_in}
use Rattle.dine_reader.proofs.drafts.edges_in.Given as goal

abbrev pub invariant-loop-table : goal.invariant-loop-table
invariant-loop-table l = l.edges.items ≡ map (edge_in (names_in l.sites)) (map view (take l.table-index l.tables))
