use Rattle.std.proofs.Common.{◌∷◌, [], length, ap, arith}
use Rattle.std.proofs.lemmas.List.{length-append}
use Rattle.dine_world.specs.private.StepsOfSites.{IsNotEating}
use Rattle.dine_world.proofs.all_sites.WorldOpened.{front_all, last_all}
use Rattle.dine_world.proofs.world.opening.spend.Goals as goal

pub loop-sites-init : goal.loop-sites-init
loop-sites-init c = c.requires

pub into_parts-requires : goal.into_parts-requires
into_parts-requires c =
    (last_all IsNotEating c.loop-sites.sites.items c.take_last-core.new.self.items c.take_last-core.result c.take_last-core.ensures.items c.loop-sites.invariant).not_eating

pub loop-sites-smaller : goal.loop-sites-smaller
loop-sites-smaller c = omega (arith, ap length c.take_last-core.ensures.items, length-append c.take_last-core.new.self.items (c.take_last-core.result ∷ []))

pub loop-sites-preserved : goal.loop-sites-preserved
loop-sites-preserved c = front_all IsNotEating _ _ _ c.take_last-core.ensures.items c.loop-sites.invariant
