use Rattle.std.proofs.Common.{◌≡◌, ℕ, ◌+◌, ◌*◌, ◌<◌, ◌≤◌, length, map, Option, Some, None, sym, ◌∙◌, ap, subst, arith, Bor}
use Rattle.std.specs.List.{range_with_len}
use Rattle.std.specs.Option.{option_map, option_or}
use Rattle.std.proofs.lemmas.List.{length-map}
use Rattle.std.proofs.lemmas.Option.{slice_get_past}
use Rattle.dine_graph.specs.Plan.{edge_count}
use Rattle.dine_token.specs.declared.fork.Fork.{Fork}
use Rattle.dine_world.specs.declared.world.sites.WorldSite.{WorldSite}
use Rattle.dine_world.specs.private.Forks.{first_fork, fork_at_site}
use Rattle.dine_world.specs.Worlds.{IsWorldOf, SeenWorld, ends_seen, fork_seen, forks_seen}
use Rattle.dine_world.proofs.all_sites.ForkPlaces.{edge_read, fork_read, letters_read, meals_fit, place_fits, world_site_read}
use Rattle.dine_world.proofs.world.World.fork.Goals as goal

pub index-lower-requires : goal.index-lower-requires
index-lower-requires c =
    let found = c.in_ok-ends.ensures.lookup in
    let w = edge_read c.self.inside c.self.invariant c.deref.result.now c.deref.ensures.value c.args.edge c.in_ok-ends.ends.now found.3.0 found.1 in
    omega (arith, w.lower.site, c.self.inside.sites.ok.0)

pub index-higher-requires : goal.index-higher-requires
index-higher-requires c =
    let found = c.in_ok-ends.ensures.lookup in
    let w = edge_read c.self.inside c.self.invariant c.deref.result.now c.deref.ensures.value c.args.edge c.in_ok-ends.ends.now found.3.0 found.1 in
    omega (arith, w.higher.site, c.self.inside.sites.ok.0)

pub fork-requires-clause-place : goal.fork-requires-clause-place
fork-requires-clause-place c =
    let found = c.in_ok-ends.ensures.lookup in
    let ends = c.in_ok-ends.ends.now in
    let w = edge_read c.self.inside c.self.invariant c.deref.result.now c.deref.ensures.value c.args.edge ends found.3.0 found.1 in
    subst (λ (x : WorldSite). ends.lower_place < length x.core.places) (sym (world_site_read c.self.inside.sites.items ends.lower ends.lower_place c.args.edge c.index-lower.result.now w.lower c.index-lower.ensures)) w.lower.place

pub fork-requires-clause-meal : goal.fork-requires-clause-meal
fork-requires-clause-meal c =
    let found = c.in_ok-ends.ensures.lookup in
    let ends = c.in_ok-ends.ends.now in
    let w = edge_read c.self.inside c.self.invariant c.deref.result.now c.deref.ensures.value c.args.edge ends found.3.0 found.1 in
    place_fits c.self.inside.sites.items ends.lower ends.lower_place c.args.edge c.index-lower.result.now (meals_fit c.self.inside c.self.invariant) w.lower c.index-lower.ensures

pub index-requires : goal.index-requires
index-requires c =
    let found = c.in_ok-ends.ensures.lookup in
    let w = edge_read c.self.inside c.self.invariant c.deref.result.now c.deref.ensures.value c.args.edge c.in_ok-ends.ends.now found.3.0 found.1 in
    omega (arith, w.within, c.self.inside.links.ok.0)

pub fork-requires-3-clause-place : goal.fork-requires-3-clause-place
fork-requires-3-clause-place c =
    let found = c.in_ok-ends.ensures.lookup in
    let ends = c.in_ok-ends.ends.now in
    let w = edge_read c.self.inside c.self.invariant c.deref.result.now c.deref.ensures.value c.args.edge ends found.3.0 found.1 in
    subst (λ (x : WorldSite). ends.higher_place < length x.core.places) (sym (world_site_read c.self.inside.sites.items ends.higher ends.higher_place c.args.edge c.index-higher.result.now w.higher c.index-higher.ensures)) w.higher.place

pub fork-requires-3-clause-meal : goal.fork-requires-3-clause-meal
fork-requires-3-clause-meal c =
    let found = c.in_ok-ends.ensures.lookup in
    let ends = c.in_ok-ends.ends.now in
    let w = edge_read c.self.inside c.self.invariant c.deref.result.now c.deref.ensures.value c.args.edge ends found.3.0 found.1 in
    place_fits c.self.inside.sites.items ends.higher ends.higher_place c.args.edge c.index-higher.result.now (meals_fit c.self.inside c.self.invariant) w.higher c.index-higher.ensures

pub index-requires-2 : goal.index-requires-2
index-requires-2 c =
    let found = c.in_ok-ends.ensures.lookup in
    let w = edge_read c.self.inside c.self.invariant c.deref.result.now c.deref.ensures.value c.args.edge c.in_ok-ends.ends.now found.3.0 found.1 in
    omega (arith, w.within, c.self.inside.links.ok.0)

-- what one of two references points to
now_or : (f : Bor Fork → Fork) (a b : Option (Bor Fork)) (w x : Option Fork) → option_map f a ≡ w → option_map f b ≡ x → option_map f (option_or a b) ≡ option_or w x
now_or f (Some a) b w x aw bx = ap (λ (o : Option Fork). option_or o x) aw
now_or f None b w x aw bx = bx ∙ ap (λ (o : Option Fork). option_or o x) aw

-- and one of four
now_of_four : (f : Bor Fork → Fork) (a b c d : Option (Bor Fork)) (w x y z : Option Fork) → option_map f a ≡ w → option_map f b ≡ x → option_map f c ≡ y → option_map f d ≡ z
    → option_map f (option_or (option_or (option_or a b) c) d) ≡ option_or (option_or (option_or w x) y) z
now_of_four f a b c d w x y z aw bx cy dz =
    now_or f (option_or (option_or a b) c) d (option_or (option_or w x) y) z (now_or f (option_or a b) c (option_or w x) y (now_or f a b w x aw bx) cy) dz

pub returns : goal.returns
returns c plan world is =
    let found = c.in_ok-ends.ensures.lookup in
    let ends = c.in_ok-ends.ends.now in
    let e : ℕ = c.args.edge in
    let links = c.self.inside.links.items in
    let sites = c.self.inside.sites.items in
    let w = edge_read c.self.inside c.self.invariant c.deref.result.now c.deref.ensures.value e ends found.3.0 found.1 in
    ap (option_map (λ (x : Bor Fork). x.now)) (c.or-3.ensures ∙ ap (λ (o : Option (Bor Fork)). option_or o c.fork-4.result) (c.or-2.ensures ∙ ap (λ (o : Option (Bor Fork)). option_or o c.fork-3.result) c.or.ensures))
    ∙ now_of_four (λ (x : Bor Fork). x.now) c.fork.result c.fork-2.result c.fork-3.result c.fork-4.result _ _ _ _
    (c.fork.ensures ∙ ap (λ (x : WorldSite). fork_at_site x ends.lower_place) (world_site_read sites ends.lower ends.lower_place e c.index-lower.result.now w.lower c.index-lower.ensures))
    (c.fork-2.ensures ∙ ap first_fork (letters_read links (2 * e + 1) c.index.result.now w.within c.index.ensures))
    (c.fork-3.ensures ∙ ap (λ (x : WorldSite). fork_at_site x ends.higher_place) (world_site_read sites ends.higher ends.higher_place e c.index-higher.result.now w.higher c.index-higher.ensures))
    (c.fork-4.ensures ∙ ap first_fork (letters_read links (2 * e) c.index-2.result.now (omega (arith, w.within)) c.index-2.ensures))
    ∙ fork_read c.self.inside c.self.invariant c.deref.result.now c.deref.ensures.value e ends found.3.0 found.1 plan world (subst (IsWorldOf plan world) (sym c.self.view_is) is)

pub returns-in_err-ends : goal.returns-in_err-ends
returns-in_err-ends c plan world is =
    let edges = range_with_len 0 (edge_count plan) in
    let here : c.deref.result.now ≡ c.self.inside.edges.items = cc in
    let count : length c.deref.result.now ≡ length (map (ends_seen plan) edges) = ap length (here ∙ ap (λ (w : SeenWorld). w.edges) c.self.view_is ∙ is.edges) in
    let past : length (forks_seen plan world) ≤ c.args.edge = omega (arith, c.in_err-ends.ensures.lookup.3, count, length-map edges (ends_seen plan), length-map edges (fork_seen plan world)) in
    ap (option_map (λ (x : Bor Fork). x.now)) c.from_residual.ensures ∙ sym (slice_get_past (forks_seen plan world) c.args.edge past)
