-- The whole line was made before it was written.
use Rattle.std.proofs.Common.{◌≡◌, ◌∙◌, List, ℕ, codes, subst, rules}
use Rattle.std.specs.Io.KnownBytes.{Appends}
use Rattle.std.specs.Prelude.{OnOk}
use Rattle.dine_words.specs.Output.{WritesPrefix}
use Rattle.dine.specs.FaultLines.{fault_text, line_of, whole_line}
use Rattle.dine.proofs.LineLemmas.{holds_line}
use Rattle.dine.proofs.fault_lines.Fault.report.Given.{Over}
use Rattle.dine.proofs.fault_lines.Fault.report.Goals as goal

held : (g : Over) (c : goal.After-write_line g) → c.as_str.result.now ≡ line_of c.args.self
held g c = c.as_str.ensures.value ∙ holds_line c.new-line.result c.write_fmt.new.self (codes "dine: ") (fault_text c.args.self) c.new-line.ensures.text c.new-line.ensures.intact (search rules)

pub returns-clause-whole : goal.returns-clause-whole
returns-clause-whole g c =
    let old = g.F.Write.contents c.args.faults.now in
    let new = g.F.Write.contents c.write_line.new.output in
    subst (λ (l : List ℕ). OnOk c.write_line.result (Appends old new (whole_line l))) (held g c) c.write_line.ensures.whole

pub returns-clause-begun : goal.returns-clause-begun
returns-clause-begun g c =
    let old = g.F.Write.contents c.args.faults.now in
    let new = g.F.Write.contents c.write_line.new.output in
    subst (λ (l : List ℕ). WritesPrefix old new (whole_line l)) (held g c) c.write_line.ensures.prefix
