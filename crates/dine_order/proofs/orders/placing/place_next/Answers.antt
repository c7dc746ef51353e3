use Rattle.std.proofs.Common.{◌≡◌, ◌<◌, Bool, List, count_by, slice_set, sym, ◌∙◌, subst, map}
use Rattle.dine_world.specs.Worlds.{WorldSteps}
use Rattle.dine_order.proofs.Outcomes.{err_of, none_from, ok_of}
use Rattle.dine_order.proofs.Placing.{found, not_ready_disabled, not_ready_without, search_as, searched, taken_out}
use Rattle.dine_order.proofs.Sets.{fewer}
use Rattle.dine_order.proofs.orders.placing.place_next.Goals.{in-Some-next_kind+else-is_ok, in_default-next_kind}
use Rattle.dine_order.proofs.orders.placing.place_next.Goals as goal

pub returns-then-is_ok : goal.returns-then-is_ok
returns-then-is_ok g c plan placed begun =
    let search = c.loop-site.invariant.search plan placed begun in
    let done = ok_of (WorldSteps (record { site = c.in-Some.site; kind = c.in-Some-next_kind.kind }) c.loop-site.world c.step.new.self) (c.step.new.self ≡ c.loop-site.world) c.step.result
    (sym c.is_ok.ensures.value ∙ c.if-is_ok.true) c.step.ensures.done in
    found plan (map g.J.AsSlice.items c.args.journals.now) placed c.args.counts.now c.loop-site.untried c.loop-site.world search c.in-Some.site c.in-Some-next_kind.kind c.step.new.self
    (sym c.in-Some.ensures.value) (sym c.next_kind.ensures ∙ c.in-Some-next_kind.is) (done plan search.state search.stands)

pub loop-site-smaller : goal.loop-site-smaller
loop-site-smaller g c =
    subst (λ (set : List Bool). count_by (λ b. b) set < count_by (λ b. b) c.loop-site.untried) (sym c.remove.ensures) (fewer c.loop-site.untried c.in-Some.site (sym c.in-Some.ensures.value))

pub loop-site-preserved : goal.loop-site-preserved
loop-site-preserved g c =
    let lists = map g.J.AsSlice.items c.args.journals.now in
    let counts = c.args.counts.now in
    let set = c.loop-site.untried in
    let world = c.loop-site.world in
    let site = c.in-Some.site in
    elim c.match-next_kind.branch [
      | in-Some-next_kind+else-is_ok w ↦
          let refused = sym w.is_ok.ensures.value ∙ w.if-is_ok.false in
          let same = err_of (WorldSteps (record { site = site; kind = w.in-Some-next_kind.kind }) world w.step.new.self) (w.step.new.self ≡ world) w.step.result refused w.step.ensures.done in
          record {
            same = w.world-is ∙ same ∙ c.loop-site.invariant.same;
            search = λ plan placed begun.
                let search = c.loop-site.invariant.search plan placed begun in
                search_as plan lists placed counts c.remove.new.self (slice_set set site _) c.match-next_kind.world world c.remove.ensures (w.world-is ∙ same)
                (taken_out plan lists placed counts set world search site
                (not_ready_disabled plan lists placed counts set world search site w.in-Some-next_kind.kind (sym c.next_kind.ensures ∙ w.in-Some-next_kind.is) (sym (w.step.ensures.exact plan search.state search.stands) ∙ refused)));
          }
      | in_default-next_kind w ↦ record {
        same = w.world-is ∙ c.loop-site.invariant.same;
        search = λ plan placed begun.
            let search = c.loop-site.invariant.search plan placed begun in
            search_as plan lists placed counts c.remove.new.self (slice_set set site _) c.match-next_kind.world world c.remove.ensures w.world-is
            (taken_out plan lists placed counts set world search site
            (not_ready_without plan lists placed counts set world search site (sym c.next_kind.ensures ∙ none_from c.next_kind.result w.in_default-next_kind.not-Some)));
      }
    ]

pub returns : goal.returns
returns g c plan placed begun =
    searched plan (map g.J.AsSlice.items c.args.journals.now) placed c.args.counts.now c.loop-site.untried c.loop-site.world (c.loop-site.invariant.search plan placed begun)
    (sym c.first.ensures.value ∙ none_from c.first.result c.in_default.not-Some)
