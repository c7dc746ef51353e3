-- What is known of a table while it is written.
use Rattle.std.specs.Prelude.{◌≡◌, ◌++◌, ℕ, Bool, false, List}
use Rattle.std.specs.Global.{Vec}
use Rattle.std.specs.List.{list_all}
use Rattle.dine_graph.specs.Plan.{is_name_byte}
use Rattle.csv.specs.Writing.{default_writer, writer_setup, writer_under, writer_pending, fields_written, has_written}
use Rattle.csv.specs.declared.writer.Writer.{Writer}

-- a field in which each byte is one that names may have, so it needs no quotes
abbrev pub is_plain : List ℕ → Bool
is_plain field = list_all is_name_byte field

-- the text so far
abbrev pub text_so_far : Writer (Vec ℕ) → List ℕ
text_so_far table = (writer_under table).items ++ writer_pending table

-- the table has the default setup, and no record is begun
pub record IsBetweenRecords (table : Writer (Vec ℕ)) : Type 0 where
  pub setup : writer_setup table ≡ default_writer
  pub no_field : fields_written table ≡ 0
  pub no_byte : has_written table ≡ false
