use Rattle.std.proofs.Common.{◌≡◌, ℕ, suc, ◌+◌, ◌*◌, ◌-◌, ◌<◌, ◌^◌, ◌∙◌, ap, subst, sym, arith}
use Rattle.dine_token.specs.declared.limits.TheConstants.{MAX_NUMBER}
use Rattle.dine_token.specs.declared.act.Act.{Act}
use Rattle.dine_token.specs.Values.{IsAct, value_after_act}
use Rattle.dine_graph.specs.Plan.{SeenJob, act_of}
use Rattle.dine_rules.specs.Values.{after_meals}
use Rattle.dine_wire.proofs.Arriving.{act_fits, after_meals-push}
use Rattle.dine_wire.proofs.arrival.value_of.Goals as goal

pub loop-i-preserved : goal.loop-i-preserved
loop-i-preserved c =
    let plan = c.args.plan.now in
    let site = c.args.site in
    let first = c.args.ate + 1 in
    let i = c.loop-i.i in
    let act : c.job.result.act ≡ act_of plan site (first + i) = ap (λ (j : SeenJob). j.act) c.job.ensures.job in
    let small : IsAct (act_of plan site (first + i)) = c.job.ensures.plan.small_acts site (first + i) c.requires.site (omega arith) (omega (arith, c.requires.within, c.loop-i-test.true)) in
    let step : suc i ≡ i + 1 = omega arith in
    let is : c.after_act-value.result ≡ value_after_act (act_of plan site (first + i)) c.loop-i.value = c.after_act-value.ensures ∙ ap (λ (a : Act). value_after_act a c.loop-i.value) act in (
      is ∙ ap (value_after_act (act_of plan site (first + i))) c.loop-i.invariant.0 ∙ sym (after_meals-push plan site first i c.args.value) ∙ ap (λ (n : ℕ). after_meals plan site first n c.args.value) step,
      subst (λ (v : ℕ). v + MAX_NUMBER * (c.args.meals - (i + 1)) < 2 ^ 64) (sym is) (act_fits (act_of plan site (first + i)) c.loop-i.value c.args.meals i small (omega (arith, c.loop-i-test.true)) c.loop-i.invariant.1),
    )
