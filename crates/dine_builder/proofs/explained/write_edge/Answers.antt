use Rattle.std.proofs.Common.{ap, append_assoc, refl, ℕ}
use Rattle.std.proofs.Output.{has_written_of_eq}
use Rattle.dine_builder.proofs.explained.write_edge.Goals as goal

pub returns-in-Some : goal.returns-in-Some
returns-in-Some g c = λ plain ok.
    let a = ap (λ (ends : ℕ × ℕ). ends.0) c.in-Some.ensures.ends in
    let b = ap (λ (ends : ℕ × ℕ). ends.1) c.in-Some.ensures.ends in
    has_written_of_eq _ _ _ _ _ (rw (← c.in-Some.ensures.found, a, b, c.site_count-sites.ensures, append_assoc, append_assoc, append_assoc, append_assoc, append_assoc, append_assoc) refl) (c.write.ensures.writes plain ok)
