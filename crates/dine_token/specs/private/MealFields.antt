-- What the fields of a Meal obey.
use Rattle.std.specs.Prelude.{◌<◌, ◌^◌, All, vec_len}
use Rattle.dine_token.specs.declared.meal.Meal.TheInside.{Inside}
use Rattle.dine_token.specs.Fork.{IsDirty}

-- its forks can be counted, and each is dirty, since the meal was written into it
pub record IsWellServed (meal : Inside) : Type 0 where
  pub few : vec_len meal.hands < 2 ^ 32
  pub dirty : All IsDirty meal.hands.items
