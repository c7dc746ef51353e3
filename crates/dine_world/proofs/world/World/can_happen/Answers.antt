use Rattle.std.proofs.Common.{◌≡◌, List, length, get_or, slice_get, Some, None, refl, sym, ◌∙◌, ap, arith}
use Rattle.std.proofs.lemmas.Option.{slice_get_past, slice_get_read}
use Rattle.dine_rules.specs.declared.letters.Letter.{Letter}
use Rattle.dine_world.specs.declared.world.sites.WorldSite.{WorldSite}
use Rattle.dine_world.specs.WorldSites.{can_do}
use Rattle.dine_world.specs.Worlds.{SeenWorld, can_at, can_happen}
use Rattle.dine_world.proofs.world.World.can_happen.Goals as goal

pub returns-in-Some : goal.returns-in-Some
returns-in-Some c =
    let kind = c.args.event.kind in
    let s = c.args.event.site in
    let sites = c.self.inside.sites.items in
    let site = c.in-Some.world_site.now in
    let same = c.deref.ensures.value in
    let found = c.in-Some.ensures.lookup.3 in
    let there : slice_get sites s ≡ Some site =
    slice_get_read sites (length sites) s site refl (omega (arith, found.0, ap length same)) (found.1 site ∙ ap (λ (list : List WorldSite). get_or list s site) same) in
    c.can_do.ensures
    ∙ ap (λ (links : List (List Letter)). can_do links site.core kind) c.as_slice.ensures.value
    ∙ ap (can_at c.self.inside.links.items kind) (sym there)
    ∙ ap (λ (world : SeenWorld). can_happen world c.args.event) c.self.view_is

pub returns-in-None : goal.returns-in-None
returns-in-None c =
    let s = c.args.event.site in
    let sites = c.self.inside.sites.items in
    let past : slice_get sites s ≡ None = slice_get_past sites s (omega (arith, c.in-None.ensures.lookup.3, ap length c.deref.ensures.value)) in
    ap (can_at c.self.inside.links.items c.args.event.kind) (sym past) ∙ ap (λ (world : SeenWorld). can_happen world c.args.event) c.self.view_is
