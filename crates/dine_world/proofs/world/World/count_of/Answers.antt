use Rattle.std.proofs.Common.{◌≡◌, ◌<◌, false, Some, slice_get, length, sym, ◌∙◌, ap, subst, arith}
use Rattle.dine_world.specs.private.WorldFields.{seen_world}
use Rattle.dine_world.specs.Worlds.{IsWorldOf, SeenWorld}
use Rattle.dine_world.proofs.enabled_events.Counts.{count_few, count_is, kept_count}
use Rattle.dine_world.proofs.world.World.count_of.Goals as goal

pub returns-then-has-clause-count : goal.returns-then-has-clause-count
returns-then-has-clause-count c plan world is = c.count_at.ensures.kinds ∙ count_is plan world c.args.self.now is c.args.site c.requires

pub returns-else-has-clause-count : goal.returns-else-has-clause-count
returns-else-has-clause-count c plan world is =
    let seen = seen_world c.self.inside in
    let within : c.args.site < length seen.sites = omega (arith, c.requires, ap (λ (w : SeenWorld). length w.sites) c.self.view_is) in
    let out : slice_get c.self.inside.outdated_counts c.args.site ≡ Some false = c.has.ensures ∙ ap Some c.if-has.false in
    c.index.ensures
    ∙ kept_count seen c.self.inside.counts.items c.self.inside.outdated_counts c.args.site c.index.result.now c.self.invariant.counts within out
    ∙ count_is plan world seen (subst (IsWorldOf plan world) (sym c.self.view_is) is) c.args.site within

pub returns-else-has-clause-few : goal.returns-else-has-clause-few
returns-else-has-clause-few c =
    let seen = seen_world c.self.inside in
    let kept = c.self.invariant in
    let is : IsWorldOf kept.plan kept.state c.args.self.now = subst (IsWorldOf kept.plan kept.state) c.self.view_is kept.stands in
    let within : c.args.site < length c.args.self.now.sites = c.requires in
    omega (arith, returns-else-has-clause-count c kept.plan kept.state is, count_is kept.plan kept.state c.args.self.now is c.args.site within, count_few kept.plan kept.state c.args.self.now is c.args.site within)
