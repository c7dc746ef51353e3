-- Which letters a site waits for if it can do nothing by itself.
use Rattle.std.specs.Prelude.{◌≡◌, ℕ, ◌<◌, ◌==◌, ◌&&◌, not, Bool, false, length, count_by, None, is_some}
use Rattle.dine_token.specs.Log.{is_dirty}
use Rattle.dine_set.specs.Marks.{marks_of}
use Rattle.dine_graph.specs.Plan.{SeenPlan}
use Rattle.dine_rules.specs.declared.letters.Letter.{Letter}
use Rattle.dine_rules.specs.declared.letters.Letter.TheVariants as letter
use Rattle.dine_rules.specs.Breach.{first_breach}
use Rattle.dine_rules.specs.Letters.{kind_of}
use Rattle.dine_rules.specs.Local.{LocalState, is_eating}
use Rattle.dine_rules.specs.Holdings.{fork_at, hand_at}
use Rattle.dine_rules.specs.Wants.{SeenWants, is_wanted}
use Rattle.dine_site.specs.Core.{SeenCore}
use Rattle.dine_site.specs.Places.{breach_at, is_away_at, is_dirty_at, place_at}
use Rattle.dine_site.specs.Standing.{all_places}

-- a Request at each place whose fork is in hand and dirty, and a Fork if only one fork is away
abbrev pub wants_of : SeenCore → SeenWants
wants_of core = record { requests = marks_of is_dirty_at core.places; forks = count_by is_away_at core.places }

-- by the whole lists: the fork of place i is in hand, and dirty
abbrev pub has_dirty_fork : SeenPlan → ℕ → LocalState → ℕ → Bool
has_dirty_fork plan s state i = not (is_eating state.phase) && fork_at plan s state i == 1 && is_dirty (hand_at s state i)

-- by the whole lists: the site does not hold the fork of place i
abbrev pub lacks_fork : SeenPlan → ℕ → LocalState → ℕ → Bool
lacks_fork plan s state i = fork_at plan s state i == 0

-- what the site waits for, by the whole lists
abbrev pub wants_by_lists : SeenPlan → ℕ → LocalState → SeenWants
wants_by_lists plan s state = record { requests = marks_of (has_dirty_fork plan s state) (all_places state); forks = count_by (lacks_fork plan s state) (all_places state) }

-- By the whole lists: the letter that comes next at place i can be put off until the next meal. The fork there is in
-- hand and clean, and neither Done nor Close is allowed. So only a Request is.
abbrev pub can_put_off_by_lists : SeenPlan → ℕ → LocalState → ℕ → Bool
can_put_off_by_lists plan s state i = (not (is_eating state.phase) && fork_at plan s state i == 1 && not (is_dirty (hand_at s state i)))
    && (is_some (first_breach plan s state i letter.Done) && is_some (first_breach plan s state i letter.Close))

-- The core takes a letter at place i that is allowed there, and that it does not wait for.
pub record TakesUnwanted (core : SeenCore) (i : ℕ) (l : Letter) : Type 0 where
  pub place : i < length core.places
  pub in_turn : breach_at core.site core.ate (place_at core i) l ≡ None
  pub unwanted : is_wanted (wants_of core) i (kind_of l) ≡ false
