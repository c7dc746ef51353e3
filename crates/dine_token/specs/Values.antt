-- What a meal does to the value of an edge: a number that the two ends of the edge share, and that their fork carries.
use Rattle.std.specs.Prelude.{ℕ, ◌+◌, ◌≤◌}
use Rattle.dine_token.specs.declared.act.Act.{Act}
use Rattle.dine_token.specs.declared.act.Act.TheVariants.{Add, Set}
use Rattle.dine_token.specs.declared.limits.TheConstants.{MAX_NUMBER}

-- the amount of an act
abbrev pub amount_of : Act → ℕ
amount_of (Add amount) = amount
amount_of (Set amount) = amount

-- an act as a meal may do it: its amount is at most 1,000,000
abbrev pub IsAct : Act → Type 0
IsAct act = amount_of act ≤ MAX_NUMBER

-- a value after an act: Add adds its amount, and Set makes the amount the value
abbrev pub value_after_act : Act → ℕ → ℕ
value_after_act (Add amount) value = value + amount
value_after_act (Set amount) value = amount
