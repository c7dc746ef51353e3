use Rattle.std.proofs.Common.{refl}
use Rattle.dine_threads.proofs.starts.prepare.Goals as goal

pub pack_site-requires : goal.pack_site-requires
pack_site-requires g c = c.requires

pub returns : goal.returns
returns g c = record { fresh = c.in_ok-packed.ensures.fresh; site = c.in_ok-packed.ensures.site; ports = refl; bell = refl; diner = refl; manner = refl }
