-- What arrives: the fork that the receiver kept when it gave it away, after what the note reports.
use Rattle.std.specs.Prelude.{◌≡◌, ◌⊎◌, ℕ, ◌+◌, ◌-◌, ◌<◌, ◌≤◌, true, ◌++◌}
use Rattle.dine_token.specs.Fork.{SeenFork, location, after_move, other_end}
use Rattle.dine_token.specs.Lawful.{due_at}
use Rattle.dine_token.specs.Log.{is_dirty, meals_of}
use Rattle.dine_graph.specs.Plan.{SeenPlan, edge_count, ends_of, job_count, lo_of, hi_of}
use Rattle.dine_rules.specs.declared.letters.Letter.{Letter}
use Rattle.dine_rules.specs.declared.letters.Letter.TheVariants as letter
use Rattle.dine_rules.specs.Holdings.{meals_from}
use Rattle.dine_rules.specs.Values.{after_meals}
use Rattle.dine_wire.specs.Notes.{fork_note}
use Rattle.dine_wire.specs.declared.note.ForkNote.{ForkNote}
use Rattle.dine_wire.specs.declared.note.Report.{Report}
use Rattle.dine_wire.specs.declared.note.Report.TheVariants.{Fork, Request, Done, Close}
use Rattle.dine_wire.specs.declared.wire_fault.WireFault.{WireFault}
use Rattle.dine_wire.specs.declared.wire_fault.WireFault.TheVariants as fault

-- the number of meals in the log of the end where the fork is
abbrev pub meals_here : SeenFork → ℕ
meals_here fork = meals_of (location fork) fork.log

-- the fork after the next n meals of the end where it is, each with the act of its job
abbrev pub eaten_on : SeenPlan → SeenFork → ℕ → SeenFork
eaten_on plan fork n = record fork {
  log = fork.log ++ meals_from (location fork) (meals_here fork + 1) n;
  value = after_meals plan (location fork) (meals_here fork + 1) n fork.value;
}

-- the fork after those meals, and a Move to the other end
abbrev pub carried_on : SeenPlan → SeenFork → ℕ → SeenFork
carried_on plan fork n = after_move (other_end fork (location fork)) (eaten_on plan fork n)

-- the fork is of an edge of the plan, with its ends and the meals due to them
pub record IsOfPlan (plan : SeenPlan) (fork : SeenFork) : Type 0 where
  pub edge : fork.edge < edge_count plan
  pub ends : fork.ends ≡ ends_of plan fork.edge
  pub due : fork.due ≡ (job_count plan (lo_of plan fork.edge), job_count plan (hi_of plan fork.edge))

-- The end where the fork is may eat n more meals with it and then send it: it eats or has eaten with it, it has these
-- meals left, and the other end has meals left. [paper: clean and dirty, release rule]
pub record MayCarryOn (fork : SeenFork) (n : ℕ) : Type 0 where
  pub used : (is_dirty fork.log ≡ true) ⊎ (1 ≤ n)
  pub within : meals_here fork + n ≤ due_at fork.ends fork.due (location fork)
  pub hungry : meals_of (other_end fork (location fork)) fork.log < due_at fork.ends fork.due (other_end fork (location fork))

-- The fork that was kept goes on to one with this note: it is of the plan, and the other end may have eaten n meals
-- with it and sent it.
pub record CarriesOn (plan : SeenPlan) (kept : SeenFork) (note : ForkNote) (n : ℕ) : Type 0 where
  pub of_plan : IsOfPlan plan kept
  pub may : MayCarryOn kept n
  pub note_is : note ≡ fork_note (carried_on plan kept n)

-- Why no fork arrives with this note. `Unlawful`: the fork that was kept does not go on to one with the note. `Memory`:
-- it does, and an allocation failed. No other fault is one of a fork that was kept.
abbrev pub DoesNotArrive : SeenPlan → SeenFork → ForkNote → WireFault → Type 0
DoesNotArrive plan kept note fault.Length = ⊥
DoesNotArrive plan kept note fault.Kind = ⊥
DoesNotArrive plan kept note fault.OtherRun = ⊥
DoesNotArrive plan kept note fault.Unlawful = (n : ℕ) → CarriesOn plan kept note n → ⊥
DoesNotArrive plan kept note fault.Memory = (n : ℕ) × CarriesOn plan kept note n

-- the letter of an edge that a site gets of what is reported, if it kept this fork when it gave it away
abbrev pub arrived : SeenPlan → SeenFork → ℕ → Report → Letter
arrived plan kept edge (Fork note) = letter.Fork (carried_on plan kept (note.ate - meals_here kept))
arrived plan kept edge Request = letter.Request edge
arrived plan kept edge Done = letter.Done
arrived plan kept edge Close = letter.Close

-- The letter has the form of one that goes on from the fork that this end kept when it gave it away: a Fork is that
-- fork after n meals there, whatever n is, and a Move; a Request names the edge.
abbrev pub GoesOnFrom : SeenPlan → SeenFork → ℕ → Letter → Type 0
GoesOnFrom plan kept edge (letter.Fork fork) = (n : ℕ) × (fork ≡ carried_on plan kept n)
GoesOnFrom plan kept edge (letter.Request of) = of ≡ edge
GoesOnFrom plan kept edge letter.Done = Unit {0}
GoesOnFrom plan kept edge letter.Close = Unit {0}
