use Rattle.std.proofs.Common.{append_assoc, refl}
use Rattle.std.proofs.Output.{has_written_of_eq}
use Rattle.dine_builder.proofs.explained.write_counts.Goals as goal

pub returns : goal.returns
returns g c = λ plain ok. has_written_of_eq _ _ _ _ _ (rw (c.site_count-sites.ensures, c.edge_count-edges.ensures, append_assoc, append_assoc) refl) (c.write.ensures.writes plain ok)
