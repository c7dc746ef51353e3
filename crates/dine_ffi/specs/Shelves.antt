-- The forks that a site keeps: what a letter changes of them, and what it needs to be taken.
use Rattle.std.specs.Prelude.{◌≡◌, ◌≢◌, ◌⊎◌, ℕ, ℤ, ◌<◌, ◌==◌, false, true, List, Option, Some, None, is_some, length, slice_index_or, slice_set, if◌then◌else◌}
use Rattle.dine_token.specs.Fork.{SeenFork}
use Rattle.dine_graph.specs.Plan.{SeenPlan, job_count, lo_of, resigns, site_count}
use Rattle.dine_rules.specs.declared.breach.Breach.{Breach}
use Rattle.dine_rules.specs.declared.breach.Breach.TheVariants as breach
use Rattle.dine_rules.specs.declared.letters.Letter.{Letter}
use Rattle.dine_rules.specs.declared.letters.Letter.TheVariants.{Fork, Request, Done, Close}
use Rattle.dine_rules.specs.Steps.{opened_fork}
use Rattle.dine_site.specs.Core.{SeenCore}
use Rattle.dine_site.specs.Places.{is_held, neighbour_of, place_at}
use Rattle.dine_wire.specs.Arrivals.{DoesNotArrive}
use Rattle.dine_wire.specs.declared.note.ForkNote.{ForkNote}
use Rattle.dine_wire.specs.declared.wire_fault.WireFault.{WireFault}
use Rattle.dine_wire.specs.declared.wire_fault.WireFault.TheVariants as fault
use Rattle.dine_ffi.specs.Answers.{wire_status}

-- the fork that a site keeps of an edge at the start: that of the start, if the site is the higher end
abbrev pub first_kept : SeenPlan → ℕ → ℕ → Option SeenFork
first_kept plan s edge = if lo_of plan edge == s then None else Some (opened_fork plan edge)

-- the fork that is kept at place i, if one is
abbrev pub kept_at : ℕ → List (Option SeenFork) → Option SeenFork
kept_at i shelf = slice_index_or shelf i None

-- the fork of a letter that is put at place i is kept as it was
abbrev pub put_away : ℕ → Letter → List (Option SeenFork) → List (Option SeenFork)
put_away i (Fork fork) shelf = slice_set shelf i (Some fork)
put_away i (Request edge) shelf = shelf
put_away i Done shelf = shelf
put_away i Close shelf = shelf

-- if a Fork is taken at place i, none is kept there any more
abbrev pub taken_off : ℕ → Letter → List (Option SeenFork) → List (Option SeenFork)
taken_off i (Fork fork) shelf = slice_set shelf i None
taken_off i (Request edge) shelf = shelf
taken_off i Done shelf = shelf
taken_off i Close shelf = shelf

-- Why no fork is taken back with this note, and what is returned then: none is kept, and that is no lawful fork; or the
-- one that is kept does not arrive, for this fault.
abbrev pub IsNotTakenBack : SeenPlan → Option SeenFork → ForkNote → ℤ → Type 0
IsNotTakenBack plan None note status = status ≡ wire_status fault.Unlawful
IsNotTakenBack plan (Some kept) note status = (f : WireFault) × (status ≡ wire_status f) × DoesNotArrive plan kept note f

-- A site waits for a Fork with this note at place i, as far as it can know without the fork. It took no Close there,
-- and has neither fork nor token. If it took Done, the sender has eaten all its meals or resigns.
pub record AwaitsFork (plan : SeenPlan) (core : SeenCore) (i : ℕ) (note : ForkNote) : Type 0 where
  pub within : i < length core.places
  pub unclosed : (place_at core i).close_taken ≡ false
  pub no_fork : is_held (place_at core i).fork ≡ false
  pub no_token : is_some (place_at core i).token ≡ false
  pub done : (place_at core i).done_taken ≡ true → (resigns plan (neighbour_of core.site (place_at core i)) ≡ true)
      ⊎ (job_count plan (neighbour_of core.site (place_at core i)) ≡ note.ate)

-- Why a Fork with this note may not arrive at place i, as far as a site can know without the fork: Close was taken
-- there; or fork or token is there; or Done was taken, and the sender has not eaten all its meals and does not resign.
abbrev pub IsForkBreach : SeenPlan → SeenCore → ℕ → ForkNote → Breach → Type 0
IsForkBreach plan core i note breach.AfterClose = (place_at core i).close_taken ≡ true
IsForkBreach plan core i note breach.ForkOutOfTurn = ((place_at core i).close_taken ≡ false)
    × ((is_held (place_at core i).fork ≡ true) ⊎ (is_some (place_at core i).token ≡ true))
IsForkBreach plan core i note breach.StrangeFork = ((place_at core i).close_taken ≡ false)
    × (is_held (place_at core i).fork ≡ false) × (is_some (place_at core i).token ≡ false) × ((place_at core i).done_taken ≡ true)
    × (neighbour_of core.site (place_at core i) < site_count plan → (resigns plan (neighbour_of core.site (place_at core i)) ≡ false)
    × (job_count plan (neighbour_of core.site (place_at core i)) ≢ note.ate))
IsForkBreach plan core i note _ = ⊥
