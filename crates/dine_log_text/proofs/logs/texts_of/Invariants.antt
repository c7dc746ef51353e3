use Rattle.std.proofs.Common.{◌≡◌, take}
use Rattle.dine_log_text.specs.private.MealTexts.{texts_of}
use Rattle.dine_log_text.proofs.logs.texts_of.Given as goal

-- the texts so far are those of the first sites
abbrev pub invariant-loop-site : goal.invariant-loop-site
invariant-loop-site l = l.texts.items ≡ take l.site (texts_of l.plan)
