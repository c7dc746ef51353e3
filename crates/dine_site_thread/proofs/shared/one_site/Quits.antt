-- The journal of a site tells whether it has quit.
use Rattle.std.proofs.Common.{◌≡◌, ℕ, Bool, true, false, ◌||◌, List, [], ◌∷◌, map, Option, Some, refl, sym, ◌∙◌, ap}
use Rattle.std.proofs.lemmas.Option.{same_Some}
use Rattle.dine_graph.specs.Plan.{SeenPlan}
use Rattle.dine_rules.specs.declared.events.EventKind.{EventKind}
use Rattle.dine_rules.specs.declared.events.EventKind.TheVariants as event
use Rattle.dine_rules.specs.declared.letters.Letter.{Letter}
use Rattle.dine_rules.specs.Journals.{IsJournal, fails_before, state_after, state_after_all}
use Rattle.dine_rules.specs.Local.{LocalState, start_of, traffic_at}
use Rattle.dine_rules.specs.StepLists.{LeadTo}
use Rattle.dine_rules.specs.Steps.{Step, Ask, Begin, Break, Close, Done, End, Give, Hungry, Quit, Take, after, step_by}
use Rattle.dine_rules.proofs.shared.journals.JournalStates.{own_step}
use Rattle.dine_rules.proofs.shared.lists.Options.{and_then_parts, option_map_parts}
use Rattle.dine_site_thread.specs.Diners.{is_quit, shows_quit}
use Rattle.dine_site_thread.specs.declared.manner.Manner.{Manner}
use Rattle.dine_site_thread.specs.Doings.{HasDone}

swapped : (a b c : Bool) → (b || (a || c)) ≡ ((a || b) || c)
swapped true true c = refl
swapped true false c = refl
swapped false b c = refl

alone : (b : Bool) → (b || false) ≡ b
alone true = refl
alone false = refl

-- a site has quit after an event where it had, or where the event is Quit
by_event : (plan : SeenPlan) (s : ℕ) (failed : Bool) (next : ℕ → Option Letter) (state : LocalState) (kind : EventKind) (step : Step) → step_by failed next kind ≡ Some step
    → (after plan s state step).has_quit ≡ (is_quit kind || state.has_quit)
by_event plan s failed next state (event.Take i) step is =
    let w = option_map_parts (Take i) (next i) step is in
    ap (λ (x : Step). (after plan s state x).has_quit) (sym w.2)
by_event plan s failed next state (event.Give i) step is = ap (λ (x : Step). (after plan s state x).has_quit) (sym (same_Some (Give i) step is))
by_event plan s failed next state event.End step is = ap (λ (x : Step). (after plan s state x).has_quit) (sym (same_Some (End failed) step is))
by_event plan s failed next state event.Begin step is = ap (λ (x : Step). (after plan s state x).has_quit) (sym (same_Some Begin step is))
by_event plan s failed next state event.Quit step is = ap (λ (x : Step). (after plan s state x).has_quit) (sym (same_Some Quit step is))
by_event plan s failed next state event.Hungry step is = ap (λ (x : Step). (after plan s state x).has_quit) (sym (same_Some Hungry step is))
by_event plan s failed next state (event.Ask i) step is = ap (λ (x : Step). (after plan s state x).has_quit) (sym (same_Some (Ask i) step is))
by_event plan s failed next state (event.Done i) step is = ap (λ (x : Step). (after plan s state x).has_quit) (sym (same_Some (Done i) step is))
by_event plan s failed next state (event.Close i) step is = ap (λ (x : Step). (after plan s state x).has_quit) (sym (same_Some (Close i) step is))

by_events : (plan : SeenPlan) (s : ℕ) (letters : ℕ → List Letter) (last : Bool) (kinds : List EventKind) (state end : LocalState) → state_after_all plan s letters last state kinds ≡ Some end
    → end.has_quit ≡ (shows_quit kinds || state.has_quit)
by_events plan s letters last [] state end h = ap (λ (x : LocalState). x.has_quit) (sym (same_Some state end h))
by_events plan s letters last (kind ∷ kinds) state end h =
    let w = and_then_parts (λ (x : LocalState). state_after_all plan s letters last x kinds) (state_after plan s letters (fails_before last kinds) state kind) end h in
    let one = own_step plan s letters (fails_before last kinds) state w.0 kind w.1 in
    let now : w.0.has_quit ≡ (is_quit kind || state.has_quit) = ap (λ (x : LocalState). x.has_quit) (sym one.changes) ∙ by_event plan s (fails_before last kinds) _ state kind one.step one.step_is in
    by_events plan s letters last kinds w.0 end w.2 ∙ ap (λ (b : Bool). shows_quit kinds || b) now ∙ swapped (is_quit kind) (shows_quit kinds) state.has_quit

-- so the journal tells it
pub quit_reported : (plan : SeenPlan) (s : ℕ) (journal : List EventKind) (state : LocalState) → IsJournal plan s journal state → state.has_quit ≡ shows_quit journal
quit_reported plan s journal state did = by_events plan s (λ i. (traffic_at state i).taken) state.must_quit journal (start_of plan s) state did ∙ alone (shows_quit journal)

-- also where the site broke off then
kept_breaking : (plan : SeenPlan) (s : ℕ) (places : List ℕ) (state end : LocalState) → LeadTo plan s state (map Break places) end → end.has_quit ≡ state.has_quit
kept_breaking plan s [] state end lead = ap (λ (x : LocalState). x.has_quit) (sym lead)
kept_breaking plan s (i ∷ places) state end lead = kept_breaking plan s places (after plan s state (Break i)) end lead.1

pub quit_reported_before : {manner : Manner} (plan : SeenPlan) (s : ℕ) (journal : List EventKind) (state : LocalState) → HasDone manner plan s journal state → state.has_quit ≡ shows_quit journal
quit_reported_before plan s journal state did = kept_breaking plan s did.places did.before state did.broke_off ∙ quit_reported plan s journal did.before did.acted.by_journal
