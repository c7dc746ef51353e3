-- The text of a site's meals, as the logs of all its forks take parts of it.
use Rattle.std.specs.Prelude.{◌≡◌, ℕ, ◌-◌, ◌<◌, ◌≤◌, List, codes, length, map, slice_index_or}
use Rattle.dine_token.specs.Periods.{meals_from}
use Rattle.dine_graph.specs.Plan.{SeenPlan, SeenSite}
use Rattle.dine_log_text.specs.Logs.{entries_text}

-- the meals first, first + 1, .. of a site with this name, `count` of them, each after a comma
abbrev pub meals_text : List ℕ → ℕ → ℕ → List ℕ
meals_text name first count = entries_text (λ (site : ℕ). name) (codes ", ") (meals_from 0 first count)

-- The text has the meals from 1 on. `starts` has the length of the text of the first k of them, for each k from 0 to
-- their number.
pub record IsMealTexts (name text starts : List ℕ) : Type 0 where
  pub some : 1 ≤ length starts
  pub starts_are : (k d : ℕ) → k < length starts → slice_index_or starts k d ≡ length (meals_text name 1 k)
  pub text_is : text ≡ meals_text name 1 (length starts - 1)

-- a text of meals as contracts see it: the name of the site, and the number of its meals, from meal 1 on
pub record SeenMealTexts : Type 0 where
  pub name : List ℕ
  pub meals : ℕ

-- the texts of the plan's sites, in order: each has as many meals as the site has jobs
abbrev pub texts_of : SeenPlan → List SeenMealTexts
texts_of plan = map (λ (site : SeenSite). record { name = site.name; meals = length site.jobs }) plan.sites
