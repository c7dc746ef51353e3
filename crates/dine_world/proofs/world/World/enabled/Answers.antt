use Rattle.std.proofs.Common.{◌≡◌, length, slice_get, arith, ap, sym, ◌∙◌}
use Rattle.std.proofs.lemmas.Option.{slice_get_past}
use Rattle.dine_graph.specs.Plan.{site_count}
use Rattle.dine_rules.specs.World.{enabled_events, events_at, is_enabled}
use Rattle.dine_rules.proofs.shared.counting.KindNumbers.{more_sites, of_sites}
use Rattle.dine_world.proofs.enabled_events.Counts.{event_behind}
use Rattle.dine_world.proofs.world.World.enabled.Goals as goal

pub returns-then-left-count : goal.returns-then-left-count
returns-then-left-count c plan world is =
    c.event_at.ensures plan world is
    ∙ sym (event_behind (is_enabled plan world) (events_at plan) c.loop-site.site (site_count plan) c.loop-site.left (omega (arith, is.sites.count)) (omega (arith, c.if-left-count.true, c.count_of-count.ensures.count plan world is)))
    ∙ ap (slice_get (enabled_events plan world)) (c.loop-site.invariant plan world is)

pub loop-site-preserved : goal.loop-site-preserved
loop-site-preserved c plan world is =
    omega (arith, c.loop-site.invariant plan world is, c.if-left-count.false, c.count_of-count.ensures.count plan world is, more_sites (is_enabled plan world) (events_at plan) c.loop-site.site)

pub returns : goal.returns
returns c plan world is =
    let all : site_count plan ≡ c.loop-site.site = omega (arith, is.sites.count) in
    let passed = ap (λ n. length (of_sites (is_enabled plan world) (events_at plan) n)) all in
    sym (slice_get_past (enabled_events plan world) c.args.n (omega (arith, passed, c.loop-site.invariant plan world is)))
