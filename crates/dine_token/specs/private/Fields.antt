-- The fork that the fields of a Fork describe, and what the fields obey.
use Rattle.std.specs.Prelude.{◌≡◌, ◌+◌, ◌≤◌, vec_capacity}
use Rattle.dine_token.specs.declared.fork.Fork.TheInside.{Inside}
use Rattle.dine_token.specs.declared.fork.Contents.{Contents}
use Rattle.dine_token.specs.Log.{is_dirty, location_of, meals_of}
use Rattle.dine_token.specs.Periods.{periods_of, entries_of}
use Rattle.dine_token.specs.Fork.{SeenFork, IsFork}

-- the fork that the contents describe: its log is the one that has their periods
abbrev pub seen_contents : Contents → SeenFork
seen_contents fork = record {
  edge = fork.edge;
  ends = (fork.lower, fork.higher);
  due = (fork.lower_due, fork.higher_due);
  log = entries_of fork.periods.items;
  value = fork.value;
}

-- the fork that the fields of a `Fork` describe
abbrev pub seen_fork : Inside → SeenFork
seen_fork fork = seen_contents fork.contents.value

-- The fork is a proper one, its periods, its location, whether it is dirty, and the meals of each end are those of the
-- log, and there is capacity for all periods that the log may get: one more than the meals due to both ends.
pub record MatchesLog (fork : Contents) : Type 0 where
  pub proper : IsFork (seen_contents fork)
  pub periods : fork.periods.items ≡ periods_of fork.lower (entries_of fork.periods.items)
  pub location : fork.location ≡ location_of fork.lower (entries_of fork.periods.items)
  pub dirty : fork.dirty ≡ is_dirty (entries_of fork.periods.items)
  pub lower_meals : fork.lower_meals ≡ meals_of fork.lower (entries_of fork.periods.items)
  pub higher_meals : fork.higher_meals ≡ meals_of fork.higher (entries_of fork.periods.items)
  pub capacity : fork.lower_due + fork.higher_due + 1 ≤ vec_capacity fork.periods

-- the invariant of a `Fork`: its contents match its log
abbrev pub IsSound : Inside → Type 0
IsSound fork = MatchesLog fork.contents.value
