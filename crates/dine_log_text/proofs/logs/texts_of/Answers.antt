use Rattle.std.proofs.Common.{◌++◌, ◌∷◌, [], ap, arith, ◌∙◌}
use Rattle.dine_log_text.specs.private.MealTexts.{SeenMealTexts}
use Rattle.dine_log_text.proofs.MealParts.{text_more, texts_all}
use Rattle.dine_log_text.proofs.logs.texts_of.Goals as goal

pub loop-site-preserved : goal.loop-site-preserved
loop-site-preserved c =
    c.in_ok-push.ensures.items ∙ ap (λ (t : SeenMealTexts). c.loop-site.texts.items ++ t ∷ []) c.in_ok-make.ensures
    ∙ text_more c.args.plan.now c.loop-site.site c.loop-site.texts.items c.name.result.now c.jobs.result (omega arith) c.loop-site.invariant c.name.ensures.name c.jobs.ensures.count

pub returns : goal.returns
returns c = texts_all c.args.plan.now c.loop-site.texts.items c.loop-site.site (omega arith) c.loop-site.invariant
