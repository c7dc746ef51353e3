-- The events of a site that put a letter.
use Rattle.std.specs.Prelude.{ℕ}
use Rattle.dine_rules.specs.Steps as step
use Rattle.dine_rules.specs.Steps.{Step}
use Rattle.dine_ffi.specs.declared.acts.PutKind.{PutKind}
use Rattle.dine_ffi.specs.declared.acts.PutKind.TheVariants.{Give, Ask, Done, Close, Break}

-- the step that puts the letter at place i
abbrev pub put_step : PutKind → ℕ → Step
put_step Give i = step.Give i
put_step Ask i = step.Ask i
put_step Done i = step.Done i
put_step Close i = step.Close i
put_step Break i = step.Break i
