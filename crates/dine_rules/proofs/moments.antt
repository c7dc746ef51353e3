-- What the functions of stamps and clocks make. These types have no byte, so the code of a function says nothing of it.
use Rattle.std.specs.Prelude.{ℕ, ◌+◌, List, [], ◌∷◌, ◌++◌}
use Rattle.dine_rules.specs.declared.events.EventKind.{EventKind}
use Rattle.dine_rules.specs.Moments.{last_moment}

-- Stamp::first
abbrev pub first_moment : ℕ
first_moment = 0

-- Stamp::after
abbrev pub moment_after : ℕ → ℕ → ℕ
moment_after own other = own + other + 1

-- Clock::start
abbrev pub no_events : List (EventKind × ℕ)
no_events = []

-- Clock::after
abbrev pub events_after : List (EventKind × ℕ) → EventKind → ℕ → List (EventKind × ℕ)
events_after events kind seen = events ++ (kind, last_moment events + seen + 1) ∷ []

-- Clock::last
abbrev pub moment_of_the_last : List (EventKind × ℕ) → ℕ
moment_of_the_last events = last_moment events
