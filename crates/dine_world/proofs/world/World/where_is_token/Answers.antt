use Rattle.std.proofs.Common.{◌≡◌, ◌<◌, ◌≤◌, length, get_or, Some, sym, ◌∙◌, ap, subst, arith}
use Rattle.dine_world.specs.declared.world.sites.WorldSite.{WorldSite}
use Rattle.dine_world.specs.declared.world.whereabouts.Whereabouts.{Whereabouts}
use Rattle.dine_world.specs.private.WorldFields.{seen_world}
use Rattle.dine_world.specs.Whereabouts.{IsTokenAt, ReportsWhere}
use Rattle.dine_world.specs.Worlds.{IsWorldOf}
use Rattle.dine_world.proofs.all_sites.ForkPlaces.{edge_read, world_site_read}
use Rattle.dine_world.proofs.all_sites.Whereabouts.{token_found, found_past}
use Rattle.dine_world.proofs.world.World.where_is_token.Goals as goal

pub returns-in_err-ends : goal.returns-in_err-ends
returns-in_err-ends c plan world is =
    let seen = seen_world c.self.inside in
    let e = c.args.edge in
    let past : length seen.edges ≤ e = omega (arith, c.in_err-ends.ensures.lookup.3, ap length c.deref.ensures.value) in
    subst (ReportsWhere plan e (IsTokenAt plan world e)) (sym c.from_residual.ensures)
    (found_past plan world seen (subst (IsWorldOf plan world) (sym c.self.view_is) is) e _ _ past)

pub index-lower-requires : goal.index-lower-requires
index-lower-requires c =
    let found = c.in_ok-ends.ensures.lookup in
    let ends = c.in_ok-ends.ends.now in
    let w = edge_read c.self.inside c.self.invariant c.deref.result.now c.deref.ensures.value c.args.edge ends found.3.0 found.1 in
    omega (arith, w.lower.site, c.self.inside.sites.ok.0)

pub index-higher-requires : goal.index-higher-requires
index-higher-requires c =
    let found = c.in_ok-ends.ensures.lookup in
    let ends = c.in_ok-ends.ends.now in
    let w = edge_read c.self.inside c.self.invariant c.deref.result.now c.deref.ensures.value c.args.edge ends found.3.0 found.1 in
    omega (arith, w.higher.site, c.self.inside.sites.ok.0)

pub has_token-at_lower-requires : goal.has_token-at_lower-requires
has_token-at_lower-requires c =
    let found = c.in_ok-ends.ensures.lookup in
    let ends = c.in_ok-ends.ends.now in
    let w = edge_read c.self.inside c.self.invariant c.deref.result.now c.deref.ensures.value c.args.edge ends found.3.0 found.1 in
    subst (λ (x : WorldSite). ends.lower_place < length x.core.places) (sym (world_site_read c.self.inside.sites.items ends.lower ends.lower_place c.args.edge c.index-lower.result.now w.lower c.index-lower.ensures)) w.lower.place

pub index-requires : goal.index-requires
index-requires c =
    let found = c.in_ok-ends.ensures.lookup in
    let ends = c.in_ok-ends.ends.now in
    let w = edge_read c.self.inside c.self.invariant c.deref.result.now c.deref.ensures.value c.args.edge ends found.3.0 found.1 in
    omega (arith, w.within, c.self.inside.links.ok.0)

pub has_token-at_higher-requires : goal.has_token-at_higher-requires
has_token-at_higher-requires c =
    let found = c.in_ok-ends.ensures.lookup in
    let ends = c.in_ok-ends.ends.now in
    let w = edge_read c.self.inside c.self.invariant c.deref.result.now c.deref.ensures.value c.args.edge ends found.3.0 found.1 in
    subst (λ (x : WorldSite). ends.higher_place < length x.core.places) (sym (world_site_read c.self.inside.sites.items ends.higher ends.higher_place c.args.edge c.index-higher.result.now w.higher c.index-higher.ensures)) w.higher.place

pub returns : goal.returns
returns c plan world is =
    let found = c.in_ok-ends.ensures.lookup in
    let ends = c.in_ok-ends.ends.now in
    let seen = seen_world c.self.inside in
    let e = c.args.edge in
    let within : e < length seen.edges = omega (arith, found.3.0, ap length c.deref.ensures.value) in
    let edge : ends ≡ get_or seen.edges e ends = found.1 ∙ ap (λ edges. get_or edges e ends) c.deref.ensures.value in
    subst (λ (x : Whereabouts). ReportsWhere plan e (IsTokenAt plan world e) (Some x)) (sym c.found_at.ensures)
    (token_found plan world seen (subst (IsWorldOf plan world) (sym c.self.view_is) is) e ends c.index-lower.result.now c.index-higher.result.now c.index.result.now
    c.has_token-at_lower.result c.has_request-to_lower.result c.has_token-at_higher.result
    (record { within = within; edge = edge; lower = c.index-lower.ensures; higher = c.index-higher.ensures; link = c.index.ensures })
    c.has_token-at_lower.ensures.by_lists c.has_request-to_lower.ensures c.has_token-at_higher.ensures.by_lists)
