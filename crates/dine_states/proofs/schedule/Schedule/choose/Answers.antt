use Rattle.std.proofs.Common.{◌≡◌, ℕ, List, [], ◌∷◌, ◌++◌, Some, option_map, ap, sym, ◌∙◌, subst}
use Rattle.std.proofs.lemmas.Bool.{false≢true}
use Rattle.dine_rules.specs.Schedules.{from_here, replay}
use Rattle.dine_rules.specs.World.{WorldState}
use Rattle.dine_world.specs.Worlds.{IsWorldOf, RunsTo, SeenWorld}
use Rattle.dine_states.specs.declared.events.Enabled.{Enabled}
use Rattle.dine_states.specs.contracts.schedule.Schedule.{the_view}
use Rattle.dine_states.specs.Schedules.{SeenSchedule, run_of}
use Rattle.dine_states.proofs.Replays.{goes_on}
use Rattle.dine_states.proofs.schedule.Schedule.choose.Goals as goal

pub returns-clause-chosen : goal.returns-clause-chosen
returns-clause-chosen c is =
    let plan = c.args.plan.now in
    let old : SeenSchedule = c.args.self.now in
    let new : SeenSchedule = the_view (record { world = c.replay.new.self; past = c.note.new.self }) in
    let before : WorldState = (run_of plan old.done).world in
    let stands : IsWorldOf plan before c.self.inside.world = subst (λ (world : SeenWorld). IsWorldOf plan before world) (sym (ap (λ (s : SeenSchedule). s.world) c.self.view_is)) is.stands in
    let done : new.done ≡ old.done ++ c.args.choice ∷ [] = c.in_ok-note.ensures.done ∙ ap (λ (n : ℕ). c.self.inside.past.done.items ++ n ∷ []) c.in-Some.ensures.number
    ∙ ap (λ (s : SeenSchedule). s.done ++ c.args.choice ∷ []) c.self.view_is in record {
      done = done;
      last = ap (option_map (λ (e : Enabled). e.number)) c.in_ok-note.ensures.last ∙ ap (λ (n : ℕ). Some n) c.in-Some.ensures.number;
      is = goes_on plan old new c.args.choice c.in-Some.enabled.event c.replay.result is (sym (c.in-Some.ensures.event plan before stands))
          (subst (λ (l : List ℕ). RunsTo plan (replay plan (from_here before) l) c.replay.result c.replay.new.self) c.as_slice.ensures (c.replay.ensures plan before stands)) done;
    }

pub returns-clause-refused : goal.returns-clause-refused
returns-clause-refused c is = absurd (false≢true (sym is))
