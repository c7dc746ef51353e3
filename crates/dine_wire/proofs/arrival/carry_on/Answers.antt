use Rattle.std.proofs.Common.{◌≡◌, ℕ, suc, ◌+◌, ◌∙◌, ap, subst, sym, arith}
use Rattle.dine_token.specs.declared.act.Act.{Act}
use Rattle.dine_token.specs.Fork.{SeenFork, MayEat, MayMove, after_meal, location, other_end}
use Rattle.dine_token.specs.Log.{meals_of}
use Rattle.dine_graph.specs.Plan.{SeenJob, act_of}
use Rattle.dine_wire.specs.Arrivals.{eaten_on, meals_here}
use Rattle.dine_wire.proofs.Arriving.{MayEat-next, MayMove-eaten_on, eaten_on-more}
use Rattle.dine_wire.proofs.arrival.carry_on.Goals as goal

pub eat-requires-clause-may : goal.eat-requires-clause-may
eat-requires-clause-may c =
    let kept = c.args.fork in
    let i = c.loop-i.i in
    let next = MayEat-next c.args.plan.now kept i c.args.meals c.requires.may (omega (arith, c.loop-i-test.true)) in
    let first : c.meals_of-ate.result ≡ meals_here kept = c.meals_of-ate.ensures.meals ∙ ap (λ (s : ℕ). meals_of s kept.log) c.at-site.ensures.at in
    subst (λ (fork : SeenFork). MayEat c.at-site.result (c.meals_of-ate.result + 1 + i) fork) (sym c.loop-i.invariant.0)
    (subst (λ (s : ℕ). MayEat s (c.meals_of-ate.result + 1 + i) (eaten_on c.args.plan.now kept i)) (sym c.at-site.ensures.at)
    (subst (λ (m : ℕ). MayEat (location kept) (m + 1 + i) (eaten_on c.args.plan.now kept i)) (sym first) next))

pub loop-i-preserved : goal.loop-i-preserved
loop-i-preserved c =
    let plan = c.args.plan.now in
    let kept = c.args.fork in
    let i = c.loop-i.i in
    let s = location kept in
    let k : ℕ = c.meals_of-ate.result + 1 + i in
    let first : c.meals_of-ate.result ≡ meals_here kept = c.meals_of-ate.ensures.meals ∙ ap (λ (e : ℕ). meals_of e kept.log) c.at-site.ensures.at in
    let act : c.job-act.result.act ≡ act_of plan c.at-site.result k = ap (λ (j : SeenJob). j.act) c.job-act.ensures.job in
    let step : suc i ≡ i + 1 = omega arith in
    let is : c.eat.result.0 ≡ after_meal c.at-site.result k (act_of plan c.at-site.result k) (eaten_on plan kept i) =
    c.eat.ensures.fork ∙ ap (λ (a : Act). after_meal c.at-site.result k a c.loop-i.fork) act ∙ ap (after_meal c.at-site.result k (act_of plan c.at-site.result k)) c.loop-i.invariant.0 in
    let there : after_meal c.at-site.result k (act_of plan c.at-site.result k) (eaten_on plan kept i) ≡ after_meal s (meals_here kept + 1 + i) (act_of plan s (meals_here kept + 1 + i)) (eaten_on plan kept i) =
    ap (λ (e : ℕ). after_meal e k (act_of plan e k) (eaten_on plan kept i)) c.at-site.ensures.at
    ∙ ap (λ (m : ℕ). after_meal s (m + 1 + i) (act_of plan s (m + 1 + i)) (eaten_on plan kept i)) first in
    (is ∙ there ∙ eaten_on-more plan kept i ∙ ap (eaten_on plan kept) step, c.eat.ensures.empty, c.eat.ensures.capacity)

pub give-requires : goal.give-requires
give-requires c =
    let plan = c.args.plan.now in
    let kept = c.args.fork in
    let all : c.loop-i.i ≡ c.args.meals = omega (arith, c.loop-i-test.false, c.loop-i.auto.i-end) in
    let fork : c.take.result ≡ eaten_on plan kept c.args.meals = c.take.ensures.same ∙ c.loop-i.invariant.0 ∙ ap (eaten_on plan kept) all in
    let to : c.other_end-to.result ≡ other_end kept (location kept) = c.other_end-to.ensures ∙ ap (other_end kept) c.at-site.ensures.at in
    subst (λ (f : SeenFork). MayMove c.other_end-to.result f) (sym fork)
    (subst (λ (e : ℕ). MayMove e (eaten_on plan kept c.args.meals)) (sym to) (MayMove-eaten_on plan kept c.args.meals c.requires.fork c.requires.may))
