use Rattle.dine_site.proofs.site.packed.Packed.unpack.Goals as goal

pub returns : goal.returns
returns c = c.self.view_is
