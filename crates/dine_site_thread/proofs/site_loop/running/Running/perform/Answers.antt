use Rattle.std.proofs.Common.{◌≡◌, ◌<◌, ◌+◌, ◌||◌, ◌&&◌, ◌∙◌, ◌∷◌, [], ℕ, Bool, length, true, false, Some, None, Ok, refl, subst, sym, ap, arith, rules}
use Rattle.std.proofs.lemmas.Bool.{and_parts, ltb-true, or_left}
use Rattle.std.specs.Prelude.{nat_lt}
use Rattle.dine_site.specs.Core.{SeenCore}
use Rattle.dine_site.specs.NextEvent.{can_by_itself}
use Rattle.dine_site.specs.declared.site.places.ForkSlot.TheVariants.{Away}
use Rattle.dine_rules.specs.declared.phase.Phase.TheVariants as phase
use Rattle.dine_site_thread.specs.declared.site_loop.running.Running.{Running}
use Rattle.dine_site.specs.Places.{can_ask, can_close, can_give, can_quit, can_say_done, place_at}
use Rattle.dine_rules.specs.Local.{is_thinking}
use Rattle.dine_rules.specs.declared.events.EventKind.{EventKind}
use Rattle.dine_rules.specs.declared.events.EventKind.TheVariants as event
use Rattle.dine_rules.specs.declared.letters.Letter.{Letter}
use Rattle.dine_rules.specs.declared.letters.Letter.TheVariants as letter
use Rattle.dine_site_thread.specs.private.Running.{SeenRun, GoesOn, IsObeying, IsNext, seen_run}
use Rattle.dine_site.specs.Standing.{CorePuts}
use Rattle.dine_rules.specs.Steps.{Give, Ask, Hungry, Quit, Done, Close}
use Rattle.dine_site_thread.proofs.one_site.Checks.{checks_more}
use Rattle.dine_site_thread.proofs.shared.one_site.AtPlaces.{opens-give, opens-ask, opens-done, opens-close}
use Rattle.dine_site_thread.proofs.one_site.Saying.{checks_said, is_said, proceeds_said, timed_said, works_said}
use Rattle.dine_site_thread.proofs.one_site.Working.{fork_given, worked_more}
use Rattle.dine_site_thread.specs.Threads.{Acts}
use Rattle.dine_link.specs.declared.deed.Deed.TheVariants.{Did}
use Rattle.dine_link.specs.Deeds.{ringing}
use Rattle.dine_rules.specs.declared.letters.LetterKind.{LetterKind}
use Rattle.dine_rules.specs.Letters.{kind_of}
use Rattle.dine_site_thread.proofs.one_site.Meals.{eaten_same}
use Rattle.dine_rules.specs.Moments.{last_moment}
use Rattle.dine_site_thread.specs.Ports.{seen_ports}
use Rattle.dine_site_thread.proofs.one_site.Times.{alone}
use Rattle.dine_site_thread.proofs.one_site.Same.{same_but_phase}
use Rattle.dine_site_thread.proofs.one_site.Proceeding.{proceeds_same}
use Rattle.dine_site_thread.proofs.one_site.Ways.{hungry_runs, quit_runs}
use Rattle.dine_site_thread.proofs.shared.one_site.Obeying.{obeying_as}
use Rattle.dine_link.specs.Closing.{is_close}
use Rattle.dine_site_thread.proofs.site_loop.running.Running.perform.Goals as goal

-- what the core needs at a place
needs_at : (core : SeenCore) (i : ℕ) (needs : Bool) (kind : EventKind) → can_by_itself core kind ≡ (nat_lt i (length core.places) && needs) → can_by_itself core kind ≡ true → (i < length core.places) × (needs ≡ true)
needs_at core i needs kind is may =
    let parts = and_parts (nat_lt i (length core.places)) needs (sym is ∙ may) in
    (ltb-true i (length core.places) parts.0, parts.1)

pub put-requires-clause-putting : goal.put-requires-clause-putting
put-requires-clause-putting g c κs ls =
    let next = subst (λ (kind : EventKind). IsNext (Some kind) c.args.self.now.core) c.in-Give.is c.requires.next in
    is_said g.L.Lane g.D.Diner c.journals_grow_by_each_event.ensures.event c.args.self.now c.in-Give.i (Give c.in-Give.i) (opens-give c.in-Give.i) (event.Give c.in-Give.i) refl refl c.give-letter.new.self c.give-letter.result c.give-letter.ensures.step next c.note.new.journal c.note.ensures.journal c.note.new.clock c.note.new.log c.requires.ready.running

pub returns-in-Give : goal.returns-in-Give
returns-in-Give g c =
    let next = subst (λ (kind : EventKind). IsNext (Some kind) c.args.self.now.core) c.in-Give.is c.requires.next in
    record {
      proceeds = proceeds_said g.L.Lane g.D.Diner c.journals_grow_by_each_event.ensures.event c.args.self.now c.in-Give.i (Give c.in-Give.i) (opens-give c.in-Give.i) (event.Give c.in-Give.i) refl refl c.give-letter.new.self c.give-letter.result c.give-letter.ensures.step next c.note.new.journal c.note.ensures.journal c.note.new.clock c.note.new.log c.note.ensures.clock refl refl (record (place_at c.args.self.now.core c.in-Give.i) { fork = Away }) c.give-letter.ensures.core c.requires.ready c.put.new.self c.put.result c.put.ensures.same c.put.ensures.way;
      timed = timed_said g.L.Lane g.D.Diner c.journals_grow_by_each_event.ensures.event c.args.self.now c.in-Give.i (Give c.in-Give.i) (opens-give c.in-Give.i) (event.Give c.in-Give.i) refl refl c.give-letter.new.self c.give-letter.result c.give-letter.ensures.step next c.note.new.journal c.note.ensures.journal c.note.new.clock c.note.new.log c.note.ensures.clock refl refl (record (place_at c.args.self.now.core c.in-Give.i) { fork = Away }) c.give-letter.ensures.core c.requires.ready c.put.new.self c.put.result c.put.ensures.same c.put.ensures.timed;
      checks = checks_said g.L.Lane g.D.Diner c.journals_grow_by_each_event.ensures.event c.args.self.now c.in-Give.i (Give c.in-Give.i) (opens-give c.in-Give.i) (event.Give c.in-Give.i) refl refl c.give-letter.new.self c.give-letter.result c.give-letter.ensures.step next c.note.new.journal c.note.ensures.journal c.note.new.clock c.note.new.log c.note.ensures.clock refl refl (record (place_at c.args.self.now.core c.in-Give.i) { fork = Away }) c.give-letter.ensures.core c.requires.ready c.put.new.self c.put.result c.put.ensures.same c.put.ensures.checks;
      works = works_said g.L.Lane g.D.Diner c.journals_grow_by_each_event.ensures.event c.args.self.now c.in-Give.i (Give c.in-Give.i) (opens-give c.in-Give.i) (event.Give c.in-Give.i) refl refl c.give-letter.new.self c.give-letter.result c.give-letter.ensures.step next c.note.new.journal c.note.ensures.journal c.note.new.clock c.note.new.log refl (λ woken. ap (λ (k : LetterKind). Did (event.Give c.in-Give.i) ∷ ringing c.in-Give.i k woken) (sym (fork_given (place_at c.args.self.now.core c.in-Give.i).fork c.give-letter.result _ c.give-letter.ensures.letter))) c.note.ensures.log c.put.new.self c.put.result c.put.ensures.works;
    }

pub put-requires-in-Ask-clause-putting : goal.put-requires-in-Ask-clause-putting
put-requires-in-Ask-clause-putting g c κs ls =
    let next = subst (λ (kind : EventKind). IsNext (Some kind) c.args.self.now.core) c.in-Ask.is c.requires.next in
    is_said g.L.Lane g.D.Diner c.journals_grow_by_each_event.ensures.event c.args.self.now c.in-Ask.i (Ask c.in-Ask.i) (opens-ask c.in-Ask.i) (event.Ask c.in-Ask.i) refl refl c.ask-letter.new.self c.ask-letter.result c.ask-letter.ensures.step next c.note-in-Ask.new.journal c.note-in-Ask.ensures.journal c.note-in-Ask.new.clock c.note-in-Ask.new.log c.requires.ready.running

pub returns-in-Ask : goal.returns-in-Ask
returns-in-Ask g c =
    let next = subst (λ (kind : EventKind). IsNext (Some kind) c.args.self.now.core) c.in-Ask.is c.requires.next in
    record {
      proceeds = proceeds_said g.L.Lane g.D.Diner c.journals_grow_by_each_event.ensures.event c.args.self.now c.in-Ask.i (Ask c.in-Ask.i) (opens-ask c.in-Ask.i) (event.Ask c.in-Ask.i) refl refl c.ask-letter.new.self c.ask-letter.result c.ask-letter.ensures.step next c.note-in-Ask.new.journal c.note-in-Ask.ensures.journal c.note-in-Ask.new.clock c.note-in-Ask.new.log c.note-in-Ask.ensures.clock refl refl (record (place_at c.args.self.now.core c.in-Ask.i) { token = None }) c.ask-letter.ensures.core c.requires.ready c.put-in-Ask.new.self c.put-in-Ask.result c.put-in-Ask.ensures.same c.put-in-Ask.ensures.way;
      timed = timed_said g.L.Lane g.D.Diner c.journals_grow_by_each_event.ensures.event c.args.self.now c.in-Ask.i (Ask c.in-Ask.i) (opens-ask c.in-Ask.i) (event.Ask c.in-Ask.i) refl refl c.ask-letter.new.self c.ask-letter.result c.ask-letter.ensures.step next c.note-in-Ask.new.journal c.note-in-Ask.ensures.journal c.note-in-Ask.new.clock c.note-in-Ask.new.log c.note-in-Ask.ensures.clock refl refl (record (place_at c.args.self.now.core c.in-Ask.i) { token = None }) c.ask-letter.ensures.core c.requires.ready c.put-in-Ask.new.self c.put-in-Ask.result c.put-in-Ask.ensures.same c.put-in-Ask.ensures.timed;
      checks = checks_said g.L.Lane g.D.Diner c.journals_grow_by_each_event.ensures.event c.args.self.now c.in-Ask.i (Ask c.in-Ask.i) (opens-ask c.in-Ask.i) (event.Ask c.in-Ask.i) refl refl c.ask-letter.new.self c.ask-letter.result c.ask-letter.ensures.step next c.note-in-Ask.new.journal c.note-in-Ask.ensures.journal c.note-in-Ask.new.clock c.note-in-Ask.new.log c.note-in-Ask.ensures.clock refl refl (record (place_at c.args.self.now.core c.in-Ask.i) { token = None }) c.ask-letter.ensures.core c.requires.ready c.put-in-Ask.new.self c.put-in-Ask.result c.put-in-Ask.ensures.same c.put-in-Ask.ensures.checks;
      works = works_said g.L.Lane g.D.Diner c.journals_grow_by_each_event.ensures.event c.args.self.now c.in-Ask.i (Ask c.in-Ask.i) (opens-ask c.in-Ask.i) (event.Ask c.in-Ask.i) refl refl c.ask-letter.new.self c.ask-letter.result c.ask-letter.ensures.step next c.note-in-Ask.new.journal c.note-in-Ask.ensures.journal c.note-in-Ask.new.clock c.note-in-Ask.new.log refl (λ woken. ap (λ (k : LetterKind). Did (event.Ask c.in-Ask.i) ∷ ringing c.in-Ask.i k woken) (sym (ap kind_of c.ask-letter.ensures.letter))) c.note-in-Ask.ensures.log c.put-in-Ask.new.self c.put-in-Ask.result c.put-in-Ask.ensures.works;
    }

pub put-requires-in-Done-clause-putting : goal.put-requires-in-Done-clause-putting
put-requires-in-Done-clause-putting g c κs ls =
    let next = subst (λ (kind : EventKind). IsNext (Some kind) c.args.self.now.core) c.in-Done.is c.requires.next in
    is_said g.L.Lane g.D.Diner c.journals_grow_by_each_event.ensures.event c.args.self.now c.in-Done.i (Done c.in-Done.i) (opens-done c.in-Done.i) (event.Done c.in-Done.i) refl refl c.done-letter.new.self c.done-letter.result c.done-letter.ensures.step next c.note-in-Done.new.journal c.note-in-Done.ensures.journal c.note-in-Done.new.clock c.note-in-Done.new.log c.requires.ready.running

pub returns-in-Done : goal.returns-in-Done
returns-in-Done g c =
    let next = subst (λ (kind : EventKind). IsNext (Some kind) c.args.self.now.core) c.in-Done.is c.requires.next in
    record {
      proceeds = proceeds_said g.L.Lane g.D.Diner c.journals_grow_by_each_event.ensures.event c.args.self.now c.in-Done.i (Done c.in-Done.i) (opens-done c.in-Done.i) (event.Done c.in-Done.i) refl refl c.done-letter.new.self c.done-letter.result c.done-letter.ensures.step next c.note-in-Done.new.journal c.note-in-Done.ensures.journal c.note-in-Done.new.clock c.note-in-Done.new.log c.note-in-Done.ensures.clock refl refl (record (place_at c.args.self.now.core c.in-Done.i) { done_put = true }) c.done-letter.ensures.core c.requires.ready c.put-in-Done.new.self c.put-in-Done.result c.put-in-Done.ensures.same c.put-in-Done.ensures.way;
      timed = timed_said g.L.Lane g.D.Diner c.journals_grow_by_each_event.ensures.event c.args.self.now c.in-Done.i (Done c.in-Done.i) (opens-done c.in-Done.i) (event.Done c.in-Done.i) refl refl c.done-letter.new.self c.done-letter.result c.done-letter.ensures.step next c.note-in-Done.new.journal c.note-in-Done.ensures.journal c.note-in-Done.new.clock c.note-in-Done.new.log c.note-in-Done.ensures.clock refl refl (record (place_at c.args.self.now.core c.in-Done.i) { done_put = true }) c.done-letter.ensures.core c.requires.ready c.put-in-Done.new.self c.put-in-Done.result c.put-in-Done.ensures.same c.put-in-Done.ensures.timed;
      checks = checks_said g.L.Lane g.D.Diner c.journals_grow_by_each_event.ensures.event c.args.self.now c.in-Done.i (Done c.in-Done.i) (opens-done c.in-Done.i) (event.Done c.in-Done.i) refl refl c.done-letter.new.self c.done-letter.result c.done-letter.ensures.step next c.note-in-Done.new.journal c.note-in-Done.ensures.journal c.note-in-Done.new.clock c.note-in-Done.new.log c.note-in-Done.ensures.clock refl refl (record (place_at c.args.self.now.core c.in-Done.i) { done_put = true }) c.done-letter.ensures.core c.requires.ready c.put-in-Done.new.self c.put-in-Done.result c.put-in-Done.ensures.same c.put-in-Done.ensures.checks;
      works = works_said g.L.Lane g.D.Diner c.journals_grow_by_each_event.ensures.event c.args.self.now c.in-Done.i (Done c.in-Done.i) (opens-done c.in-Done.i) (event.Done c.in-Done.i) refl refl c.done-letter.new.self c.done-letter.result c.done-letter.ensures.step next c.note-in-Done.new.journal c.note-in-Done.ensures.journal c.note-in-Done.new.clock c.note-in-Done.new.log refl (λ woken. ap (λ (k : LetterKind). Did (event.Done c.in-Done.i) ∷ ringing c.in-Done.i k woken) (sym (ap kind_of c.done-letter.ensures.letter))) c.note-in-Done.ensures.log c.put-in-Done.new.self c.put-in-Done.result c.put-in-Done.ensures.works;
    }

pub close-requires-in-Close-clause-putting : goal.close-requires-in-Close-clause-putting
close-requires-in-Close-clause-putting g c κs ls =
    let puts : CorePuts c.in-Close.i (Close c.in-Close.i) c.args.self.now.core c.close.new.self letter.Close = subst (λ (l : Letter). CorePuts c.in-Close.i (Close c.in-Close.i) c.args.self.now.core c.close.new.self l) c.close.ensures.letter c.close.ensures.step in
    let next = subst (λ (kind : EventKind). IsNext (Some kind) c.args.self.now.core) c.in-Close.is c.requires.next in
    is_said g.L.Lane g.D.Diner c.journals_grow_by_each_event.ensures.event c.args.self.now c.in-Close.i (Close c.in-Close.i) (opens-close c.in-Close.i) (event.Close c.in-Close.i) refl refl c.close.new.self letter.Close puts next c.note-in-Close.new.journal c.note-in-Close.ensures.journal c.note-in-Close.new.clock c.note-in-Close.new.log c.requires.ready.running

pub returns-in-Close : goal.returns-in-Close
returns-in-Close g c =
    let puts : CorePuts c.in-Close.i (Close c.in-Close.i) c.args.self.now.core c.close.new.self letter.Close = subst (λ (l : Letter). CorePuts c.in-Close.i (Close c.in-Close.i) c.args.self.now.core c.close.new.self l) c.close.ensures.letter c.close.ensures.step in
    let next = subst (λ (kind : EventKind). IsNext (Some kind) c.args.self.now.core) c.in-Close.is c.requires.next in
    record {
      proceeds = proceeds_said g.L.Lane g.D.Diner c.journals_grow_by_each_event.ensures.event c.args.self.now c.in-Close.i (Close c.in-Close.i) (opens-close c.in-Close.i) (event.Close c.in-Close.i) refl refl c.close.new.self letter.Close puts next c.note-in-Close.new.journal c.note-in-Close.ensures.journal c.note-in-Close.new.clock c.note-in-Close.new.log c.note-in-Close.ensures.clock refl refl (record (place_at c.args.self.now.core c.in-Close.i) { close_put = true }) c.close.ensures.core c.requires.ready c.close-in-Close.new.self c.close-in-Close.result c.close-in-Close.ensures.same c.close-in-Close.ensures.way;
      timed = timed_said g.L.Lane g.D.Diner c.journals_grow_by_each_event.ensures.event c.args.self.now c.in-Close.i (Close c.in-Close.i) (opens-close c.in-Close.i) (event.Close c.in-Close.i) refl refl c.close.new.self letter.Close puts next c.note-in-Close.new.journal c.note-in-Close.ensures.journal c.note-in-Close.new.clock c.note-in-Close.new.log c.note-in-Close.ensures.clock refl refl (record (place_at c.args.self.now.core c.in-Close.i) { close_put = true }) c.close.ensures.core c.requires.ready c.close-in-Close.new.self c.close-in-Close.result c.close-in-Close.ensures.same c.close-in-Close.ensures.timed;
      checks = checks_said g.L.Lane g.D.Diner c.journals_grow_by_each_event.ensures.event c.args.self.now c.in-Close.i (Close c.in-Close.i) (opens-close c.in-Close.i) (event.Close c.in-Close.i) refl refl c.close.new.self letter.Close puts next c.note-in-Close.new.journal c.note-in-Close.ensures.journal c.note-in-Close.new.clock c.note-in-Close.new.log c.note-in-Close.ensures.clock refl refl (record (place_at c.args.self.now.core c.in-Close.i) { close_put = true }) c.close.ensures.core c.requires.ready c.close-in-Close.new.self c.close-in-Close.result c.close-in-Close.ensures.same c.close-in-Close.ensures.checks;
      works = works_said g.L.Lane g.D.Diner c.journals_grow_by_each_event.ensures.event c.args.self.now c.in-Close.i (Close c.in-Close.i) (opens-close c.in-Close.i) (event.Close c.in-Close.i) refl refl c.close.new.self letter.Close puts next c.note-in-Close.new.journal c.note-in-Close.ensures.journal c.note-in-Close.new.clock c.note-in-Close.new.log refl (λ woken. refl) c.note-in-Close.ensures.log c.close-in-Close.new.self c.close-in-Close.result c.close-in-Close.ensures.works;
    }

pub returns-in-Hungry : goal.returns-in-Hungry
unfolding hungry_runs
returns-in-Hungry g c =
    let run : SeenRun g.L.Lane.Identity = seen_run g.L.Lane c.args.self.now in
    let new : Running _ _ _ _ _ = record c.args.self.now { core = c.hungry.new.self; journal = c.note-in-Hungry.new.journal; clock = c.note-in-Hungry.new.clock; log = c.note-in-Hungry.new.log } in
    let same = same_but_phase c.args.self.now phase.Hungry c.hungry.new.self c.note-in-Hungry.new.journal c.note-in-Hungry.new.clock c.note-in-Hungry.new.log c.hungry.ensures.hungry in
    record {
      proceeds = proceeds_same g.L.Lane g.D.Diner (GoesOn (Ok tt)) c.args.self.now new same c.requires.ready.ready (λ plan given running. hungry_runs plan given run c.journals_grow_by_each_event.ensures.event c.hungry.new.self c.note-in-Hungry.new.journal.items c.note-in-Hungry.ensures.journal c.hungry.ensures.step (subst (λ (kind : EventKind). IsNext (Some kind) c.args.self.now.core) c.in-Hungry.is c.requires.next) running);
      timed = λ timed. alone c.args.self.now.clock.events c.args.self.now.journal.items (seen_ports g.L.Lane c.args.self.now.ports.items) event.Hungry (last_moment c.args.self.now.clock.events + 1) (omega arith) timed c.note-in-Hungry.new.journal.items c.note-in-Hungry.ensures.journal c.note-in-Hungry.new.clock.events c.note-in-Hungry.ensures.clock refl;
      checks = λ first are. checks_more first c.args.self.now.manner c.args.self.now.tally c.args.self.now.bell.found_empty c.args.self.now.clock.events c.args.self.now.journal.items event.Hungry (last_moment c.args.self.now.clock.events + 1) refl c.note-in-Hungry.new.clock.events c.note-in-Hungry.ensures.clock c.note-in-Hungry.new.journal.items c.note-in-Hungry.ensures.journal are;
      works = λ plan given was.
          let next = subst (λ (kind : EventKind). IsNext (Some kind) c.args.self.now.core) c.in-Hungry.is c.requires.next in
          let running = was.0 in
          let did = c.hungry.ensures.step plan running.state running.has.keeps running.has.stands in (
            hungry_runs plan given (seen_run g.L.Lane c.args.self.now) c.journals_grow_by_each_event.ensures.event c.hungry.new.self c.note-in-Hungry.new.journal.items c.note-in-Hungry.ensures.journal c.hungry.ensures.step next running,
            worked_more c.args.self.now.manner plan (Acts Hungry false) (event.Hungry ∷ []) was.1 (refl, next plan running.state running.has.keeps running.has.stands) (did.allowed.needs, refl) refl did.site c.note-in-Hungry.ensures.journal refl c.note-in-Hungry.ensures.log,
          );
    }

pub returns-in-Quit : goal.returns-in-Quit
unfolding quit_runs
returns-in-Quit g c =
    let old = c.args.self.now in
    let core = old.core in
    let run : SeenRun g.L.Lane.Identity = seen_run g.L.Lane old in
    let is = c.quit.ensures.quit in
    let ready = c.requires.ready.ready in
    let ate = ap (λ (core : SeenCore). core.ate) is in
    let calls = g.D.Diner.calls old.diner in
    let can : can_quit core ≡ true = subst (λ (kind : EventKind). can_by_itself core kind ≡ true) c.in-Quit.is c.requires.may in
    record {
      proceeds = record {
        way = λ plan given running. quit_runs plan given run c.journals_grow_by_each_event.ensures.event c.quit.new.self c.note-in-Quit.new.journal.items c.note-in-Quit.ensures.journal c.quit.ensures.step (subst (λ (kind : EventKind). IsNext (Some kind) core) c.in-Quit.is c.requires.next) running;
        ready = record { room = omega (arith, ready.room, ate, ap (λ (core : SeenCore). core.due) is); failed = omega (arith, ready.failed, ate) };
        eats = λ first eaten. eaten_same g.D.Diner.calls g.D.Diner.marks g.D.Diner.fits core.ate old.failed c.quit.new.self.ate old.failed first old.diner old.diner eaten ate refl refl;
        obeys = λ first obeying.
            subst (λ (x : SeenCore). IsObeying x.resigns (x.must_quit || x.has_quit) (nat_lt x.ate x.due) first calls) (sym is)
            (obeying_as core.resigns (core.must_quit || core.has_quit) (nat_lt core.ate core.due) core.resigns true (nat_lt core.ate core.due) first calls calls refl
            (sym (or_left core.must_quit core.has_quit (and_parts (is_thinking core.phase) core.must_quit can).1)) refl refl obeying);
        manner = refl;
        resigns = ap (λ (core : SeenCore). core.resigns) is;
        site = ap (λ (core : SeenCore). core.site) is;
        same_bell = refl;
        expects = λ plan site is. is;
      };
      timed = λ timed. alone c.args.self.now.clock.events c.args.self.now.journal.items (seen_ports g.L.Lane c.args.self.now.ports.items) event.Quit (last_moment c.args.self.now.clock.events + 1) (omega arith) timed c.note-in-Quit.new.journal.items c.note-in-Quit.ensures.journal c.note-in-Quit.new.clock.events c.note-in-Quit.ensures.clock refl;
      checks = λ first are. checks_more first c.args.self.now.manner c.args.self.now.tally c.args.self.now.bell.found_empty c.args.self.now.clock.events c.args.self.now.journal.items event.Quit (last_moment c.args.self.now.clock.events + 1) refl c.note-in-Quit.new.clock.events c.note-in-Quit.ensures.clock c.note-in-Quit.new.journal.items c.note-in-Quit.ensures.journal are;
      works = λ plan given was.
          let next = subst (λ (kind : EventKind). IsNext (Some kind) c.args.self.now.core) c.in-Quit.is c.requires.next in
          let running = was.0 in
          let did = c.quit.ensures.step plan running.state running.has.keeps running.has.stands in (
            quit_runs plan given (seen_run g.L.Lane c.args.self.now) c.journals_grow_by_each_event.ensures.event c.quit.new.self c.note-in-Quit.new.journal.items c.note-in-Quit.ensures.journal c.quit.ensures.step next running,
            worked_more c.args.self.now.manner plan (Acts Quit false) (event.Quit ∷ []) was.1 (refl, next plan running.state running.has.keeps running.has.stands) (did.allowed.needs, refl) refl did.site c.note-in-Quit.ensures.journal refl c.note-in-Quit.ensures.log,
          );
    }

pub returns-in-Begin : goal.returns-in-Begin
returns-in-Begin g c = c.begin.ensures

pub begin-requires-clause-ready : goal.begin-requires-clause-ready
begin-requires-clause-ready g c κs ls = c.requires.ready

pub begin-requires-clause-next : goal.begin-requires-clause-next
begin-requires-clause-next g c κs ls = subst (λ (kind : EventKind). IsNext (Some kind) c.args.self.now.core) c.in-Begin.is c.requires.next

pub give-letter-requires-clause-place : goal.give-letter-requires-clause-place
give-letter-requires-clause-place g c = (needs_at c.args.self.now.core c.in-Give.i (can_give c.args.self.now.core c.in-Give.i) (event.Give c.in-Give.i) refl (subst (λ (kind : EventKind). can_by_itself c.args.self.now.core kind ≡ true) c.in-Give.is c.requires.may)).0

pub give-letter-requires-clause-may : goal.give-letter-requires-clause-may
give-letter-requires-clause-may g c = (needs_at c.args.self.now.core c.in-Give.i (can_give c.args.self.now.core c.in-Give.i) (event.Give c.in-Give.i) refl (subst (λ (kind : EventKind). can_by_itself c.args.self.now.core kind ≡ true) c.in-Give.is c.requires.may)).1

pub ask-letter-requires-clause-place : goal.ask-letter-requires-clause-place
ask-letter-requires-clause-place g c = (needs_at c.args.self.now.core c.in-Ask.i (can_ask c.args.self.now.core c.in-Ask.i) (event.Ask c.in-Ask.i) refl (subst (λ (kind : EventKind). can_by_itself c.args.self.now.core kind ≡ true) c.in-Ask.is c.requires.may)).0

pub ask-letter-requires-clause-may : goal.ask-letter-requires-clause-may
ask-letter-requires-clause-may g c = (needs_at c.args.self.now.core c.in-Ask.i (can_ask c.args.self.now.core c.in-Ask.i) (event.Ask c.in-Ask.i) refl (subst (λ (kind : EventKind). can_by_itself c.args.self.now.core kind ≡ true) c.in-Ask.is c.requires.may)).1

pub done-letter-requires-clause-place : goal.done-letter-requires-clause-place
done-letter-requires-clause-place g c = (needs_at c.args.self.now.core c.in-Done.i (can_say_done c.args.self.now.core c.in-Done.i) (event.Done c.in-Done.i) refl (subst (λ (kind : EventKind). can_by_itself c.args.self.now.core kind ≡ true) c.in-Done.is c.requires.may)).0

pub done-letter-requires-clause-may : goal.done-letter-requires-clause-may
done-letter-requires-clause-may g c = (needs_at c.args.self.now.core c.in-Done.i (can_say_done c.args.self.now.core c.in-Done.i) (event.Done c.in-Done.i) refl (subst (λ (kind : EventKind). can_by_itself c.args.self.now.core kind ≡ true) c.in-Done.is c.requires.may)).1

pub close-requires-clause-place : goal.close-requires-clause-place
close-requires-clause-place g c = (needs_at c.args.self.now.core c.in-Close.i (can_close c.args.self.now.core c.in-Close.i) (event.Close c.in-Close.i) refl (subst (λ (kind : EventKind). can_by_itself c.args.self.now.core kind ≡ true) c.in-Close.is c.requires.may)).0

pub close-requires-clause-may : goal.close-requires-clause-may
close-requires-clause-may g c = (needs_at c.args.self.now.core c.in-Close.i (can_close c.args.self.now.core c.in-Close.i) (event.Close c.in-Close.i) refl (subst (λ (kind : EventKind). can_by_itself c.args.self.now.core kind ≡ true) c.in-Close.is c.requires.may)).1

pub note-requires : goal.note-requires
note-requires g c = record { room = c.requires.room }

pub note-requires-in-Ask : goal.note-requires-in-Ask
note-requires-in-Ask g c = record { room = c.requires.room }

pub note-requires-in-Done : goal.note-requires-in-Done
note-requires-in-Done g c = record { room = c.requires.room }

pub note-requires-in-Close : goal.note-requires-in-Close
note-requires-in-Close g c = record { room = c.requires.room }

pub note-requires-in-Hungry : goal.note-requires-in-Hungry
note-requires-in-Hungry g c = record { room = c.requires.room }

pub note-requires-in-Quit : goal.note-requires-in-Quit
note-requires-in-Quit g c = record { room = c.requires.room }

pub begin-requires-clause-may : goal.begin-requires-clause-may
begin-requires-clause-may g c κs ls = subst (λ (kind : EventKind). can_by_itself c.args.self.now.core kind ≡ true) c.in-Begin.is c.requires.may

pub begin-requires-clause-room : goal.begin-requires-clause-room
begin-requires-clause-room g c κs ls = c.requires.room_for_end c.in-Begin.is

pub hungry-requires : goal.hungry-requires
hungry-requires g c = subst (λ (kind : EventKind). can_by_itself c.args.self.now.core kind ≡ true) c.in-Hungry.is c.requires.may

pub quit-requires : goal.quit-requires
quit-requires g c = subst (λ (kind : EventKind). can_by_itself c.args.self.now.core kind ≡ true) c.in-Quit.is c.requires.may

pub put-requires-clause-letter : goal.put-requires-clause-letter
put-requires-clause-letter g c κs ls = search rules

pub put-requires-in-Ask-clause-letter : goal.put-requires-in-Ask-clause-letter
put-requires-in-Ask-clause-letter g c κs ls = ap is_close c.ask-letter.ensures.letter

pub put-requires-in-Done-clause-letter : goal.put-requires-in-Done-clause-letter
put-requires-in-Done-clause-letter g c κs ls = ap is_close c.done-letter.ensures.letter
