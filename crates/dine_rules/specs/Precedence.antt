-- Which end of an edge has precedence.
use Rattle.std.specs.Prelude.{◌≡◌, ℕ, ◌<◌, ◌==◌, Bool, List, ◌++◌, ◌∷◌, [], nat_lt, Option, Some, None, unwrap_or, if◌then◌else◌}
use Rattle.std.specs.Option.{option_or}
use Rattle.std.specs.List.{range_with_len}
use Rattle.std.specs.Prelude.{IsPermutation}
use Rattle.dine_token.specs.declared.log_entry.Entry.{Entry}
use Rattle.dine_token.specs.Log.{is_dirty, location_of}
use Rattle.dine_graph.specs.Plan.{SeenPlan, site_count, edge_count, lo_of, hi_of, other_of}
use Rattle.dine_rules.specs.Letters.{forks_in, last_log_or}
use Rattle.dine_rules.specs.Local.{traffic_at}
use Rattle.dine_rules.specs.Holdings.{fork_at, hand_at}
use Rattle.dine_rules.specs.World.{WorldState, state_of, place_of, put_to}

-- the fork is in the link to the site at place i: more Forks were put on the link than were taken from it
abbrev pub is_sent_to : SeenPlan → WorldState → ℕ → ℕ → Bool
is_sent_to plan world s i = nat_lt (forks_in (traffic_at (state_of world s) i).taken) (forks_in (put_to plan world s i))

-- the log of the fork, if the fork is in the hand of the site or on the way to it; else none
abbrev pub log_near : SeenPlan → WorldState → ℕ → ℕ → Option (List Entry)
log_near plan world s i =
    if fork_at plan s (state_of world s) i == 1 then Some (hand_at s (state_of world s) i)
    else (if is_sent_to plan world s i then Some (last_log_or [] (put_to plan world s i)) else None)

-- the log of the fork of the edge, at whichever end or in whichever link it is
abbrev pub fork_log : SeenPlan → WorldState → ℕ → List Entry
fork_log plan world edge =
    unwrap_or (option_or (log_near plan world (lo_of plan edge) (place_of plan (lo_of plan edge) edge))
    (log_near plan world (hi_of plan edge) (place_of plan (hi_of plan edge) edge))) []

-- The end with precedence, by the log of the fork. If the fork is clean, it is the end to which the fork was sent. If
-- the fork is dirty, it is the other end. [paper: precedence]
abbrev pub preferred_in : ℕ → ℕ → List Entry → ℕ
preferred_in lo hi log = let at = location_of lo log in
    if is_dirty log then (if at == lo then hi else lo) else at

-- the end of an edge that has precedence in a world [paper: precedence]
abbrev pub preferred_end : SeenPlan → WorldState → ℕ → ℕ
preferred_end plan world edge = preferred_in (lo_of plan edge) (hi_of plan edge) (fork_log plan world edge)

-- a comes before b in the list
abbrev pub StandsBefore : ℕ → ℕ → List ℕ → Type 0
StandsBefore a b sites = (front middle rest : List ℕ) × (sites ≡ front ++ a ∷ middle ++ b ∷ rest)

-- Precedence has no cycle: there is a list that has each site once, and the end of each edge that has precedence before
-- the other end. [paper: precedence]
pub record IsAcyclic (plan : SeenPlan) (world : WorldState) : Type 0 where
  pub order : List ℕ
  pub each_once : IsPermutation order (range_with_len 0 (site_count plan))
  pub preferred_first : (edge : ℕ) → edge < edge_count plan
      → StandsBefore (preferred_end plan world edge) (other_of plan edge (preferred_end plan world edge)) order
