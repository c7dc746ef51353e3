use Rattle.std.proofs.Common.{◌≡◌, ℕ, ◌+◌, ◌-◌, refl, sym, ◌∙◌, ap, arith}
use Rattle.dine_token.specs.Fork.{SeenFork, IsFork}
use Rattle.dine_token.proofs.shared.Forks.{IsEnd-location}
use Rattle.dine_graph.specs.Plan.{SeenPlan}
use Rattle.dine_rules.specs.declared.letters.Letter.{Letter}
use Rattle.dine_rules.specs.declared.letters.Letter.TheVariants as letter
use Rattle.dine_wire.specs.Arrivals.{GoesOnFrom, arrived, carried_on, meals_here}
use Rattle.dine_wire.specs.Notes.{fork_note, report_of}
use Rattle.dine_wire.specs.declared.note.ForkNote.{ForkNote}
use Rattle.dine_wire.proofs.Arriving.{fork_note-carried_on}
use Rattle.dine_wire.proofs.laws.what_arrives_was_sent.Goals as goal

sent : (plan : SeenPlan) (kept : SeenFork) (edge : ℕ) (l : Letter) → IsFork kept → GoesOnFrom plan kept edge l → arrived plan kept edge (report_of l) ≡ l
sent plan kept edge (letter.Fork fork) is goes =
    let n = goes.0 in
    let note = ap fork_note goes.1 ∙ fork_note-carried_on plan kept n is (IsEnd-location kept is) in
    let ate : (fork_note fork).ate ≡ meals_here kept + n = ap (λ (x : ForkNote). x.ate) note in
    let same : (fork_note fork).ate - meals_here kept ≡ n = omega (arith, ate) in
    ap (λ (m : ℕ). letter.Fork (carried_on plan kept m)) same ∙ ap (λ (f : SeenFork). letter.Fork f) (sym goes.1)
sent plan kept edge (letter.Request of) is goes = ap (λ (e : ℕ). letter.Request e) (sym goes)
sent plan kept edge letter.Done is goes = refl
sent plan kept edge letter.Close is goes = refl

pub returns : goal.returns
returns c = sent
