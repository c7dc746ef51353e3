use Rattle.std.proofs.Common.{◌≡◌, ◌++◌, take}
use Rattle.std.specs.List.{flat_map}
use Rattle.dine.specs.private.Records.{IsBetweenRecords, text_so_far}
use Rattle.dine.specs.Tables.{edge_record, edges_header}
use Rattle.dine.proofs.tables.write_edges.Given as goal

-- the header and the records so far
abbrev pub invariant-loop-row : goal.invariant-loop-row
invariant-loop-row l = record {
  between : IsBetweenRecords l.table;
  text : text_so_far l.table ≡ edges_header l.plan ++ flat_map (edge_record l.plan) (take l.row-index l.rows);
}
