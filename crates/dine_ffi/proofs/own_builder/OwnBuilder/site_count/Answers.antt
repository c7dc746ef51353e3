use Rattle.std.proofs.Common.{length, string_bytes, ap, arith}
use Rattle.dine_builder.specs.Draft.{Draft}
use Rattle.dine_ffi.proofs.Built.{sites_counted}
use Rattle.dine_ffi.proofs.own_builder.OwnBuilder.site_count.Goals as goal

pub overflow_cast-result : goal.overflow_cast-result
overflow_cast-result c = omega (arith, c.len.ensures, c.self.inside.names.ok.0, c.self.invariant.few_sites)

pub returns : goal.returns
returns c =
    let kept = c.self.inside in
    omega (arith, c.len.ensures, kept.names.ok.0, sites_counted string_bytes kept.names.items kept.builder c.self.invariant.names, ap (λ (d : Draft). length d.sites) c.self.view_is)
