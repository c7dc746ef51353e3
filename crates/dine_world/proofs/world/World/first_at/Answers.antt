use Rattle.std.proofs.Common.{◌≡◌, ◌<◌, Bool, List, Option, None, Some, [], length, get_or, slice_get, option_map, position, sym, ◌∙◌, ap, arith}
use Rattle.std.specs.Option.{option_or}
use Rattle.std.specs.Prelude.{option_and_then}
use Rattle.dine_rules.specs.declared.events.EventKind.{EventKind}
use Rattle.std.proofs.lemmas.Option.{get_or_from_slice_get, slice_get-get_or, slice_get_past}
use Rattle.dine_rules.specs.declared.events.EventKind.TheVariants as event
use Rattle.dine_world.specs.declared.world.sites.WorldSite.{WorldSite}
use Rattle.dine_world.specs.private.EnabledSites.{first_kind, first_kind_at}
use Rattle.dine_site.specs.NextEvent.{next_of}
use Rattle.dine_world.specs.private.WorldFields.{seen_world}
use Rattle.dine_world.specs.Worlds.{SeenWorld}
use Rattle.dine_world.proofs.enabled_events.InboxPlaces.{first_by_set}
use Rattle.dine_world.proofs.world.World.first_at.Goals as goal

pub returns : goal.returns
returns c =
    let seen = seen_world c.self.inside in
    let kept = c.self.invariant in
    let s = c.args.site in
    let same : c.deref.result.now ≡ seen.sites = cc in
    let within : s < length seen.sites = omega (arith, ap length same, c.in_ok-world_site.ensures.lookup.3.0) in
    let world_site = c.in_ok-world_site.world_site.now in
    let is : world_site ≡ get_or seen.sites s world_site = c.in_ok-world_site.ensures.lookup.3.1 world_site ∙ ap (λ sites. get_or sites s world_site) same in
    let found : slice_get seen.sites s ≡ Some world_site = slice_get-get_or seen.sites s world_site within ∙ ap (λ (x : WorldSite). Some x) (sym is) in
    let nonempty_inboxes = c.self.inside.nonempty_inboxes.items in
    let r = c.index-nonempty_inboxes.result.now in
    let row : r ≡ get_or nonempty_inboxes s [] = c.index-nonempty_inboxes.ensures ∙ sym (get_or_from_slice_get nonempty_inboxes s (get_or nonempty_inboxes s r) [] (slice_get-get_or nonempty_inboxes s r (omega (arith, within, kept.nonempty_inboxes.every_site)))) in
    c.first_kind.ensures
    ∙ ap (λ (marks : List Bool). option_or (option_map event.Take (position (λ b. b) marks)) (next_of world_site.core)) row
    ∙ sym (first_by_set kept.plan kept.state seen kept.stands nonempty_inboxes kept.nonempty_inboxes s world_site found)
    ∙ ap (λ (w : SeenWorld). first_kind_at w s) c.self.view_is

pub index-nonempty_inboxes-requires : goal.index-nonempty_inboxes-requires
index-nonempty_inboxes-requires c =
    let found = c.in_ok-world_site.ensures.lookup in
    omega (arith, found.3.0, ap length c.deref.ensures.value, c.self.invariant.nonempty_inboxes.every_site)

pub returns-in_err-world_site : goal.returns-in_err-world_site
returns-in_err-world_site c =
    let seen = seen_world c.self.inside in
    let s = c.args.site in
    let same : c.deref.result.now ≡ seen.sites = cc in
    let none : slice_get seen.sites s ≡ None = slice_get_past seen.sites s (omega (arith, ap length same, c.in_err-world_site.ensures.lookup.3)) in
    let there : ◌≡◌ {A = Option EventKind} (first_kind_at seen s) None = ap (option_and_then (λ (w : WorldSite). first_kind seen.links w.core)) none in
    c.from_residual.ensures ∙ sym there ∙ ap (λ (w : SeenWorld). first_kind_at w s) c.self.view_is
