use Rattle.std.proofs.Common.{◌≡◌, ◌<◌, length, get_or, ap, ◌∙◌, arith}
use Rattle.dine_world.proofs.all_sites.LinkReads.{place_past, place_there}
use Rattle.dine_world.proofs.world.World.core_at.Goals as goal

pub returns-then-place-degree-clause-core : goal.returns-then-place-degree-clause-core
returns-then-place-degree-clause-core c plan world stands =
    let same : c.deref.result.now ≡ c.args.self.now.sites = cc in
    let within : c.args.site < length c.args.self.now.sites = omega (arith, ap length same, c.in_ok-world_site.ensures.lookup.3.0) in
    let world_site = c.in_ok-world_site.world_site.now in
    let read : world_site ≡ get_or c.args.self.now.sites c.args.site world_site = c.in_ok-world_site.ensures.lookup.3.1 world_site ∙ ap (λ sites. get_or sites c.args.site world_site) same in
    place_there plan world c.args.self.now stands c.args.site c.args.place world_site within read (omega (arith, c.if-place-degree.true, c.degree.ensures))

pub returns-else-place-degree-clause-core : goal.returns-else-place-degree-clause-core
returns-else-place-degree-clause-core c plan world stands =
    let same : c.deref.result.now ≡ c.args.self.now.sites = cc in
    let within : c.args.site < length c.args.self.now.sites = omega (arith, ap length same, c.in_ok-world_site.ensures.lookup.3.0) in
    let world_site = c.in_ok-world_site.world_site.now in
    let read : world_site ≡ get_or c.args.self.now.sites c.args.site world_site = c.in_ok-world_site.ensures.lookup.3.1 world_site ∙ ap (λ sites. get_or sites c.args.site world_site) same in
    place_past plan world c.args.self.now stands c.args.site c.args.place world_site within read (omega (arith, c.if-place-degree.false, c.degree.ensures))
