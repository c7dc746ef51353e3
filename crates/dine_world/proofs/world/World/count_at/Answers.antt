use Rattle.std.proofs.Common.{◌≡◌, ◌+◌, ◌<◌, Bool, Some, [], length, get_or, slice_get, count_by, sym, ◌∙◌, ap, ap₂, arith}
use Rattle.std.proofs.lemmas.Option.{get_or_from_slice_get, slice_get-get_or}
use Rattle.dine_world.specs.declared.world.sites.WorldSite.{WorldSite}
use Rattle.dine_world.specs.private.Counts.{kinds_now_at}
use Rattle.dine_world.specs.private.WorldFields.{seen_world}
use Rattle.dine_world.specs.Worlds.{SeenWorld}
use Rattle.dine_world.proofs.enabled_events.Counts.{count_few}
use Rattle.dine_world.proofs.enabled_events.KindsNow.{count_spelled}
use Rattle.dine_world.proofs.world.World.count_at.Goals as goal

pub returns-clause-kinds : goal.returns-clause-kinds
returns-clause-kinds c =
    let seen = seen_world c.self.inside in
    let kept = c.self.invariant in
    let s = c.args.site in
    let within : s < length seen.sites = omega (arith, c.requires, ap (λ (w : SeenWorld). length w.sites) c.self.view_is) in
    let world_site = c.index-world_site.result.now in
    let found : slice_get seen.sites s ≡ Some world_site = slice_get-get_or seen.sites s world_site within ∙ ap (λ (x : WorldSite). Some x) (sym c.index-world_site.ensures) in
    let nonempty_inboxes = c.self.inside.nonempty_inboxes.items in
    let r = c.index.result.now in
    let row : r ≡ get_or nonempty_inboxes s [] = c.index.ensures ∙ sym (get_or_from_slice_get nonempty_inboxes s (get_or nonempty_inboxes s r) [] (slice_get-get_or nonempty_inboxes s r (omega (arith, within, kept.nonempty_inboxes.every_site)))) in
    ap₂ (λ x y. x + y) (c.len.ensures.value ∙ ap (count_by (λ (b : Bool). b)) row) c.count_own.ensures.count
    ∙ sym (count_spelled kept.plan kept.state seen kept.stands nonempty_inboxes kept.nonempty_inboxes s world_site found)
    ∙ ap (λ (w : SeenWorld). length (kinds_now_at w s)) c.self.view_is

pub returns-clause-few : goal.returns-clause-few
returns-clause-few c =
    let seen = seen_world c.self.inside in
    let kept = c.self.invariant in
    let within : c.args.site < length seen.sites = omega (arith, c.requires, ap (λ (w : SeenWorld). length w.sites) c.self.view_is) in
    omega (arith, returns-clause-kinds c, ap (λ (w : SeenWorld). length (kinds_now_at w c.args.site)) c.self.view_is, count_few kept.plan kept.state seen kept.stands c.args.site within)
