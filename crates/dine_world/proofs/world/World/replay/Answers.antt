use Rattle.std.proofs.Common.{◌+◌, ◌∷◌, ℕ, List, drop, get_or, sym, ◌∙◌, subst, arith}
use Rattle.dine_graph.specs.Plan.{SeenPlan}
use Rattle.dine_rules.specs.World.{WorldState}
use Rattle.dine_world.specs.Worlds.{IsWorldOf, SeenWorld}
use Rattle.dine_site.proofs.shared.lists.Options.{none_from}
use Rattle.dine_world.proofs.all_sites.WorldSchedules.{IsReplaying, chosen_can, drop_all, drop_choice, replayed, replaying_at_start, replaying_next, replaying_on}
use Rattle.dine_world.proofs.world.World.replay.Goals as goal
use Rattle.dine_world.proofs.world.World.replay.Goals.{in-Some, in_default}

pub loop-choice-init : goal.loop-choice-init
loop-choice-init c =
    let kept = c.self.invariant in
    record {
      few = omega arith;
      plan = kept.plan;
      world = kept.state;
      stood = subst (IsWorldOf kept.plan kept.state) c.self.view_is kept.stands;
      under_way = λ plan world stands. replaying_at_start plan world c.args.choices.now c.args.self.now stands;
    }

pub happen-requires : goal.happen-requires
happen-requires c =
    let kept = c.loop-choice.invariant in
    let choices = c.args.choices.now in
    let way = subst (IsReplaying kept.plan kept.world choices (drop c.loop-choice.choice-index choices) c.loop-choice.events) (sym c.refresh.ensures) (kept.under_way kept.plan kept.world kept.stood) in
    let n : ℕ = get_or choices c.loop-choice.choice-index 0 in
    chosen_can kept.plan way.now.world c.refresh.new.self n c.in-Some.event way.stands (sym c.in-Some.is ∙ c.enabled.ensures kept.plan way.now.world way.stands)

pub loop-choice-preserved : goal.loop-choice-preserved
loop-choice-preserved c =
    let kept = c.loop-choice.invariant in
    let i = c.loop-choice.choice-index in
    let choices = c.args.choices.now in
    let n : ℕ = get_or choices i 0 in
    let before = λ (plan : SeenPlan) (world : WorldState) (stands : IsWorldOf plan world c.args.self.now).
    subst (IsReplaying plan world choices (get_or choices i 0 ∷ drop (i + 1) choices) c.loop-choice.events) (sym c.refresh.ensures)
    (subst (λ (rest : List ℕ). IsReplaying plan world choices rest c.loop-choice.events c.loop-choice.self) (drop_choice choices i c.loop-choice-test.true) (kept.under_way plan world stands)) in
    elim c.match-enabled.branch [
      | in-Some w ↦ record {
        few = omega (arith, kept.few, w.events-is);
        plan = kept.plan;
        world = kept.world;
        stood = kept.stood;
        under_way = λ plan world stands.
            let way = before plan world stands in
            subst (λ (seen : SeenWorld). IsReplaying plan world choices (drop (i + 1) choices) c.match-enabled.events seen) (sym w.self-is)
            (subst (λ (events : ℕ). IsReplaying plan world choices (drop (i + 1) choices) events w.happen.new.self) (sym w.events-is)
            (replaying_next plan world choices (drop (i + 1) choices) n c.loop-choice.events c.refresh.new.self w.happen.new.self w.in-Some.event way
            (sym w.in-Some.is ∙ c.enabled.ensures plan way.now.world way.stands) w.happen.ensures));
      }
      | in_default w ↦ record {
        few = omega (arith, kept.few, w.events-is);
        plan = kept.plan;
        world = kept.world;
        stood = kept.stood;
        under_way = λ plan world stands.
            let way = before plan world stands in
            subst (λ (seen : SeenWorld). IsReplaying plan world choices (drop (i + 1) choices) c.match-enabled.events seen) (sym w.self-is)
            (subst (λ (events : ℕ). IsReplaying plan world choices (drop (i + 1) choices) events c.refresh.new.self) (sym w.events-is)
            (replaying_on plan world choices (drop (i + 1) choices) n c.loop-choice.events c.refresh.new.self way
            (sym (none_from c.enabled.result w.in_default.not-Some) ∙ c.enabled.ensures plan way.now.world way.stands)));
      }
    ]

pub returns : goal.returns
returns c plan world stands =
    let kept = c.loop-choice.invariant in
    let choices = c.args.choices.now in
    replayed plan world choices c.loop-choice.events c.loop-choice.self
    (subst (λ (rest : List ℕ). IsReplaying plan world choices rest c.loop-choice.events c.loop-choice.self) (drop_all choices c.loop-choice.choice-index (omega (arith, c.loop-choice-test.false))) (kept.under_way plan world stands))
