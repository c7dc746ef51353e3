use Rattle.std.proofs.Common.{◌≡◌, ◌<◌, ◌≤◌, length, get_or, ap, ◌∙◌, arith}
use Rattle.dine_site.proofs.shared.lists.Options.{match_none}
use Rattle.dine_world.proofs.all_sites.WorldOpened.{past_the_sites, a_state, a_core}
use Rattle.dine_world.proofs.world.World.core.Goals as goal

pub returns-in_err-world_site : goal.returns-in_err-world_site
returns-in_err-world_site c plan world stands =
    let same : c.deref.result.now ≡ c.args.self.now.sites = cc in
    let past : length c.args.self.now.sites ≤ c.args.site = omega (arith, ap length same, c.in_err-world_site.ensures.lookup.3) in
    match_none c.from_residual.result _ _ c.from_residual.ensures (past_the_sites plan world c.args.self.now c.args.site stands past)

pub returns : goal.returns
returns c plan world stands =
    let same : c.deref.result.now ≡ c.args.self.now.sites = cc in
    let within : c.args.site < length c.args.self.now.sites = omega (arith, ap length same, c.in_ok-world_site.ensures.lookup.3.0) in
    let world_site = c.in_ok-world_site.world_site.now in
    let is : world_site ≡ get_or c.args.self.now.sites c.args.site world_site = c.in_ok-world_site.ensures.lookup.3.1 world_site ∙ ap (λ sites. get_or sites c.args.site world_site) same in
    (a_state plan world c.args.self.now c.args.site stands within, a_core plan world c.args.self.now c.args.site world_site stands within is)
