use Rattle.std.proofs.Common.{◌≤◌, length, sym, ap, subst, arith}
use Rattle.dine_world.specs.private.Counts.{HasCounts}
use Rattle.dine_world.specs.private.WorldFields.{seen_world}
use Rattle.dine_world.specs.Worlds.{SeenWorld}
use Rattle.dine_world.proofs.enabled_events.Counts.{past_counted}
use Rattle.dine_world.proofs.world.World.refresh_at.Goals as goal

pub invariant_of-self : goal.invariant_of-self
invariant_of-self c =
    let kept = c.self.invariant in
    let seen = seen_world c.self.inside in
    let past : length seen.sites ≤ c.args.site = omega (arith, c.if-site-site_count.true, c.site_count.ensures.count, ap (λ (w : SeenWorld). length w.sites) c.self.view_is) in
    record {
      plan = kept.plan;
      state = kept.state;
      stands = kept.stands;
      no_forks = kept.no_forks;
      room = kept.room;
      no_hands = kept.no_hands;
      room_for_hands = kept.room_for_hands;
      may_be_enabled = kept.may_be_enabled;
      nonempty_inboxes = kept.nonempty_inboxes;
      counts = subst (HasCounts seen c.self.inside.counts.items) (sym c.remove.ensures) (past_counted seen c.self.inside.counts.items c.self.inside.outdated_counts c.args.site past kept.counts);
    }

pub index_mut-requires : goal.index_mut-requires
index_mut-requires c = omega (arith, c.if-site-site_count.false, c.site_count.ensures.count, ap (λ (w : SeenWorld). length w.sites) c.self.view_is, c.self.invariant.counts.every_site)

pub returns-then-site-site_count : goal.returns-then-site-site_count
returns-then-site-site_count c = c.self.view_is

pub returns : goal.returns
returns c = c.self.view_is
