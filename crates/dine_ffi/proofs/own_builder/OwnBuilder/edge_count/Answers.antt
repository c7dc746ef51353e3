use Rattle.std.proofs.Common.{length, ap, arith}
use Rattle.dine_builder.specs.Draft.{Draft}
use Rattle.dine_ffi.proofs.Built.{edges_counted}
use Rattle.dine_ffi.proofs.own_builder.OwnBuilder.edge_count.Goals as goal

pub overflow_cast-result : goal.overflow_cast-result
overflow_cast-result c = omega (arith, c.len.ensures, c.self.inside.ends.ok.0, c.self.invariant.few_edges)

pub returns : goal.returns
returns c =
    let kept = c.self.inside in
    omega (arith, c.len.ensures, kept.ends.ok.0, edges_counted kept.ends.items kept.builder c.self.invariant.ends, ap (λ (d : Draft). length d.edges) c.self.view_is)
