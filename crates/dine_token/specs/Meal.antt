-- A meal as contracts see it.
use Rattle.std.specs.Prelude.{ℕ, List}
use Rattle.dine_token.specs.Fork.{SeenFork}

-- a meal: the site that eats, the number of the meal, and the forks, in the order in which they were given
pub record SeenMeal : Type 0 where
  pub site : ℕ
  pub k : ℕ
  pub forks : List SeenFork
