use Rattle.std.proofs.Common.{length, List, Some, sym, ◌∙◌, ap, subst, arith, Bor}
use Rattle.std.specs.Option.{option_map}
use Rattle.dine_rules.specs.declared.letters.Letter.{Letter}
use Rattle.dine_rules.specs.Links.{queue_to}
use Rattle.dine_world.specs.declared.world.queue.Queue.{Queue}
use Rattle.dine_world.specs.private.WorldFields.{seen_world}
use Rattle.dine_world.specs.Worlds.{IsWorldOf}
use Rattle.dine_world.proofs.all_sites.LinkReads.{link_few, link_read, link_there, said_of_none, said_there}
use Rattle.dine_world.proofs.world.World.link_to.Goals as goal

pub returns-in_err-core-clause-queue : goal.returns-in_err-core-clause-queue
returns-in_err-core-clause-queue c plan world stands =
    ap (option_map (λ (x : Bor Queue). x.now)) c.from_residual.ensures
    ∙ sym (said_of_none plan c.args.site c.args.place (queue_to plan world c.args.site c.args.place) (c.in_err-core.ensures.core plan world stands))

pub index-requires : goal.index-requires
index-requires c =
    let kept = c.self.invariant in
    let seen = seen_world c.self.inside in
    let there = c.in_ok-core.ensures.core kept.plan kept.state (subst (IsWorldOf kept.plan kept.state) c.self.view_is kept.stands) in
    omega (arith, link_there kept.plan kept.state seen kept.stands c.args.site c.args.place c.in_ok-core.core.now c.in_ok-core.ensures.within there c.link_to.result c.link_to.ensures, c.self.inside.links.ok.0)

pub returns-clause-queue : goal.returns-clause-queue
returns-clause-queue c plan world stands =
    let seen = seen_world c.self.inside in
    let is : IsWorldOf plan world seen = subst (IsWorldOf plan world) (sym c.self.view_is) stands in
    let there = c.in_ok-core.ensures.core plan world stands in
    ap (λ (x : List Letter). Some x) (link_read plan world seen is c.args.site c.args.place c.in_ok-core.core.now c.in_ok-core.ensures.within there c.link_to.result c.index.result.now c.link_to.ensures c.index.ensures)
    ∙ sym (said_there plan c.args.site c.args.place (queue_to plan world c.args.site c.args.place) there.0)

pub returns-clause-few : goal.returns-clause-few
returns-clause-few c =
    let kept = c.self.invariant in
    let seen = seen_world c.self.inside in
    let there = c.in_ok-core.ensures.core kept.plan kept.state (subst (IsWorldOf kept.plan kept.state) c.self.view_is kept.stands) in
    omega (
      arith,
      ap length (link_read kept.plan kept.state seen kept.stands c.args.site c.args.place c.in_ok-core.core.now c.in_ok-core.ensures.within there c.link_to.result c.index.result.now c.link_to.ensures c.index.ensures),
      link_few kept.plan kept.state seen kept.stands c.args.site c.args.place c.in_ok-core.core.now c.in_ok-core.ensures.within there,
    )
