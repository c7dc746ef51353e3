use Rattle.std.proofs.Common.{◌≡◌, ◌<◌, ◌-◌, Bool, List, Some, [], length, get_or, slice_get, count_by, option_map, sym, ◌∙◌, ap, arith}
use Rattle.std.specs.Option.{option_or}
use Rattle.std.proofs.lemmas.Option.{get_or_from_slice_get, slice_get-get_or}
use Rattle.dine_rules.specs.declared.events.EventKind.TheVariants as event
use Rattle.dine_world.specs.declared.world.sites.WorldSite.{WorldSite}
use Rattle.dine_world.specs.private.Counts.{kinds_now_at, own_kinds_now}
use Rattle.dine_world.specs.private.WorldFields.{seen_world}
use Rattle.dine_world.specs.Worlds.{SeenWorld}
use Rattle.dine_set.specs.Marks.{nth_position}
use Rattle.dine_world.proofs.enabled_events.KindsNow.{nth_spelled}
use Rattle.dine_world.proofs.world.World.kind_at.Goals as goal

pub returns : goal.returns
returns c =
    let seen = seen_world c.self.inside in
    let kept = c.self.invariant in
    let s = c.args.site in
    let n = c.args.n in
    let within : s < length seen.sites = omega (arith, c.requires, ap (λ (w : SeenWorld). length w.sites) c.self.view_is) in
    let world_site = c.index-world_site.result.now in
    let found : slice_get seen.sites s ≡ Some world_site = slice_get-get_or seen.sites s world_site within ∙ ap (λ (x : WorldSite). Some x) (sym c.index-world_site.ensures) in
    let nonempty_inboxes = c.self.inside.nonempty_inboxes.items in
    let r = c.index-nonempty_inboxes.result.now in
    let row : r ≡ get_or nonempty_inboxes s [] = c.index-nonempty_inboxes.ensures ∙ sym (get_or_from_slice_get nonempty_inboxes s (get_or nonempty_inboxes s r) [] (slice_get-get_or nonempty_inboxes s r (omega (arith, within, kept.nonempty_inboxes.every_site)))) in
    c.nth_kind.ensures
    ∙ ap (λ (marks : List Bool). option_or (option_map event.Take (nth_position (λ b. b) n marks)) (slice_get (own_kinds_now world_site.core) (n - count_by (λ b. b) marks))) row
    ∙ sym (nth_spelled kept.plan kept.state seen kept.stands nonempty_inboxes kept.nonempty_inboxes s world_site found n)
    ∙ ap (λ (w : SeenWorld). slice_get (kinds_now_at w s) n) c.self.view_is
