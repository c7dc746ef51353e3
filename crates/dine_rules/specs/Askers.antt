-- How long a neighbour waits that asked a site for a fork, counted in meals of this site. All of this is about the
-- events of one site, its journal, and about the letters that it took, which the state at the end of the journal has.
use Rattle.std.specs.Prelude.{◌≡◌, ℕ, suc, ◌+◌, ◌≤◌, ◌==◌, Bool, true, false, List, [], ◌∷◌, ◌++◌, take, slice_get, Some, if◌then◌else◌}
use Rattle.std.specs.List.{list_any}
use Rattle.dine_token.specs.declared.log_entry.Entry.{Entry}
use Rattle.dine_token.specs.Log.{is_dirty}
use Rattle.dine_rules.specs.declared.letters.Letter.{Letter}
use Rattle.dine_rules.specs.declared.letters.Letter.TheVariants.{Request}
use Rattle.dine_rules.specs.declared.events.EventKind.{EventKind}
use Rattle.dine_rules.specs.declared.events.EventKind.TheVariants as event
use Rattle.dine_rules.specs.Letters.{last_log_or}
use Rattle.dine_rules.specs.Holdings.{with_meals_to}
use Rattle.dine_rules.specs.Local.{LocalState, traffic_at}

-- how many meals begin in these events
abbrev pub meals_begun : List EventKind → ℕ
meals_begun [] = 0
meals_begun (event.Begin ∷ kinds) = suc (meals_begun kinds)
meals_begun (kind ∷ kinds) = meals_begun kinds

-- how many letters are taken at place i in these events
abbrev pub takes_at : ℕ → List EventKind → ℕ
takes_at i [] = 0
takes_at i (event.Take j ∷ kinds) = (if j == i then 1 else 0) + takes_at i kinds
takes_at i (kind ∷ kinds) = takes_at i kinds

-- the event gives the fork of place i
abbrev pub gives_at : ℕ → EventKind → Bool
gives_at i (event.Give j) = j == i
gives_at i kind = false

module _ (end : LocalState) (i : ℕ) where
  -- the letters that the site took at place i in its first events: as many as these events have Takes there
  abbrev pub taken_in : List EventKind → List Letter
  taken_in first = take (takes_at i first) (traffic_at end i).taken

  -- The log in hand at place i after the first events of site s: that of the last Fork taken in them, followed by the
  -- meals of the site since.
  abbrev pub log_after : ℕ → List EventKind → List Entry
  log_after s first = with_meals_to s (meals_begun first) (last_log_or [] (taken_in first))

  -- A neighbour waits. After the first events of the journal the site takes a Request at place i, and in the events
  -- `next` that follow it does not give the fork of this place.
  pub record NeighbourWaits (journal first next : List EventKind) : Type 0 where
    pub rest : List EventKind
    pub edge : ℕ
    pub stands : journal ≡ first ++ event.Take i ∷ next ++ rest
    pub asked : slice_get (traffic_at end i).taken (takes_at i first) ≡ Some (Request edge)
    pub not_given : list_any (gives_at i) next ≡ false

-- In the journal of site s, each neighbour that asks waits for at most one meal of the site, and for none if the fork
-- was dirty when the site took the Request.
pub record AskersWaitForOneMeal (s : ℕ) (end : LocalState) (journal : List EventKind) : Type 0 where
  pub at_most_one : (i : ℕ) (first next : List EventKind) → NeighbourWaits end i journal first next → meals_begun next ≤ 1
  pub none_if_dirty : (i : ℕ) (first next : List EventKind) → NeighbourWaits end i journal first next → is_dirty (log_after end i s first) ≡ true → meals_begun next ≡ 0
