use mir.Val.{bool_byte}
use Rattle.std.proofs.Common.{◌≡◌, Bool, true, false, not, ◌&&◌, ◌||◌, ◌+◌, ◌++◌, ◌∷◌, [], List, ℕ, length, refl, sym, ◌∙◌, ap, subst, arith, rules, length-append}
use Rattle.std.proofs.lemmas.List.{append_assoc}
use Rattle.dine_rules.specs.declared.events.EventKind.{EventKind}
use Rattle.dine_rules.specs.declared.events.EventKind.TheVariants as event
use Rattle.dine_site_thread.specs.Ports.{seen_ports}
use Rattle.std.proofs.lemmas.Bool.{and_parts}
use Rattle.std.specs.Prelude.{nat_lt}
use Rattle.dine_rules.specs.Moments.{last_moment}
use Rattle.dine_site_thread.proofs.one_site.Times.{alone}
use Rattle.dine_site_thread.specs.private.Running.{SeenRun, IsObeying, seen_run}
use Rattle.std.proofs.lemmas.Option.{slice_get_within, get_or_from_slice_get}
use Rattle.dine_token.specs.Log.{meals_of}
use Rattle.dine_site.specs.Core.{SeenCore}
use Rattle.dine_site.specs.Places.{FitsMeal, after_begin, drops_jobs, after_end}
use Rattle.dine_site_thread.proofs.one_site.WholeMeals.{whole_meal}
use Rattle.dine_site_thread.proofs.shared.one_site.Obeying.{obeys_meal, hungry_goes_on}
use Rattle.dine_site_thread.proofs.one_site.Meals.{eaten_more, failed_by}
use Rattle.dine_site_thread.proofs.one_site.Ways.{eat_runs}
use Rattle.dine_site_thread.proofs.one_site.Working.{meal_led, meal_logged, worked_more}
use Rattle.dine_site_thread.specs.Threads.{Eats}
use Rattle.dine_rules.specs.Steps.{Begin, after}
use Rattle.dine_site.specs.Core.{forks_in_hand}
use Rattle.dine_site.specs.Standing.{all_places}
use Rattle.dine_site_thread.proofs.site_loop.running.Running.eat.Goals as goal

two_more : (events first second : List (EventKind × ℕ)) (e f : EventKind × ℕ) → first ≡ events ++ e ∷ [] → second ≡ first ++ f ∷ [] → length second ≡ length events + 2
two_more events first second e f one two =
    let there : length first ≡ length events + 1 = ap (λ (es : List (EventKind × ℕ)). length es) one ∙ length-append events (e ∷ []) in
    let then_one : length second ≡ length first + 1 = ap (λ (es : List (EventKind × ℕ)). length es) two ∙ length-append first (f ∷ []) in
    omega (arith, there, then_one)

byte_of : (ok : Bool) → bool_byte (not ok) ≡ failed_by ok
byte_of true = refl
byte_of false = refl

pub returns : goal.returns
unfolding eat_runs
returns g c =
    let old = c.args.self.now in
    let core = old.core in
    let p = c.requires.ready.running in
    let run : SeenRun g.L.Lane.Identity = seen_run g.L.Lane old in
    let ate : c.begin-meal.new.self.ate ≡ core.ate + 1 = ap (λ (core : SeenCore). core.ate) c.begin-meal.ensures.core in
    let later : c.end.new.self.ate ≡ c.begin-meal.new.self.ate = ap (λ (core : SeenCore). core.ate) c.end.ensures.core in
    let k = c.k.ensures ∙ c.begin-meal.ensures.meal.k ∙ ate in
    let goes_on = hungry_goes_on p.0 p.2.state core p.2.has.keeps p.2.has.stands (and_parts _ _ c.requires.may).0 in
    let failed : Bool = not c.is_ok-ok.result in
    let begun_is : SeenCore = after_begin core in
    let calls = g.D.Diner.calls c.eat.new.self in
    let is = c.end.ensures.core ∙ ap (after_end failed c.begin-meal.result.forks) c.begin-meal.ensures.core in
    let has_left : Bool = nat_lt begun_is.ate begun_is.due in
    record {
      proceeds = record {
        way = λ plan given running. eat_runs plan given run c.journals_grow_by_each_event.ensures.event failed c.begin-meal.new.self c.end.new.self c.begin-meal.result.forks c.note.new.journal.items c.note-2.new.journal.items c.note.ensures.journal c.note-2.ensures.journal c.begin-meal.ensures.step c.begin-meal.ensures.in_hand c.end.ensures.step c.requires.next running;
        ready = search rules;
        eats = λ first eaten.
            eaten_more g.D.Diner.calls g.D.Diner.marks g.D.Diner.fits core.ate old.failed c.k.result c.end.new.self.ate _ first old.diner c.eat.new.self _ eaten
            k (later ∙ ate) (ap (λ (n : ℕ). old.failed + n) (c.from.ensures ∙ byte_of c.is_ok-ok.result ∙ ap failed_by c.is_ok-ok.ensures.value)) c.eat.ensures.calls c.eat.ensures.fits c.eat.ensures.marks;
        obeys = λ first obeying.
            subst (λ (x : SeenCore). IsObeying x.resigns (x.must_quit || x.has_quit) (nat_lt x.ate x.due) first calls) (sym is)
            (obeys_meal core.resigns core.must_quit core.has_quit (nat_lt core.ate core.due) (drops_jobs failed begun_is) has_left first (g.D.Diner.calls old.diner) calls _ obeying goes_on.0 goes_on.1 c.eat.ensures.calls
            (ap (λ (ok : Bool). not ok && core.resigns && has_left) c.is_ok-ok.ensures.value));
        manner = refl;
        resigns = ap (λ (core : SeenCore). core.resigns) is;
        site = ap (λ (core : SeenCore). core.site) is;
        same_bell = refl;
        expects = c.eat.ensures.stays;
      };
      timed = λ timed.
          let ports = seen_ports g.L.Lane c.args.self.now.ports.items in
          let first = alone c.args.self.now.clock.events c.args.self.now.journal.items ports event.Begin (last_moment c.args.self.now.clock.events + 1) (omega arith) timed c.note.new.journal.items c.note.ensures.journal c.note.new.clock.events c.note.ensures.clock refl in
          alone c.note.new.clock.events c.note.new.journal.items ports event.End (last_moment c.note.new.clock.events + 1) (omega arith) first c.note-2.new.journal.items c.note-2.ensures.journal c.note-2.new.clock.events c.note-2.ensures.clock refl;
      bell = refl;
      journal = c.note-2.ensures.journal ∙ ap (λ (kinds : List EventKind). kinds ++ event.End ∷ []) c.note.ensures.journal ∙ append_assoc old.journal.items (event.Begin ∷ []) (event.End ∷ []);
      works = λ plan given (running, memo, before, was, quiet, checked, counted).
          let state = after plan core.site running.state Begin in
          let began = c.begin-meal.ensures.step plan running.state running.has.keeps running.has.stands in
          let hands = c.begin-meal.ensures.in_hand plan running.state running.has.keeps running.has.stands ∙ ap (λ (s : ℕ). forks_in_hand plan s state (all_places state)) (sym began.site) in
          let ended = c.end.ensures.step plan state began.keeps began.stands hands in
          let next = c.requires.next plan running.state running.has.keeps running.has.stands in (
            eat_runs plan given run c.journals_grow_by_each_event.ensures.event failed c.begin-meal.new.self c.end.new.self c.begin-meal.result.forks c.note.new.journal.items c.note-2.new.journal.items c.note.ensures.journal c.note-2.ensures.journal c.begin-meal.ensures.step c.begin-meal.ensures.in_hand c.end.ensures.step c.requires.next running,
            worked_more old.manner plan (Eats failed) (event.Begin ∷ event.End ∷ []) was (next, quiet) (meal_led plan core.site c.begin-meal.new.self.site running.state failed began.site began.allowed.needs ended.allowed.needs) refl (ended.site ∙ began.site)
                (c.note-2.ensures.journal ∙ ap (λ (kinds : List EventKind). kinds ++ event.End ∷ []) c.note.ensures.journal ∙ append_assoc old.journal.items (event.Begin ∷ []) (event.End ∷ [])) counted
                (meal_logged old.manner memo before old.log.deeds c.note.new.log.deeds c.note-2.new.log.deeds checked c.note.ensures.log c.note-2.ensures.log failed),
          );
      noted = two_more old.clock.events c.note.new.clock.events c.note-2.new.clock.events _ _ c.note.ensures.clock c.note-2.ensures.clock;
      tally = refl;
    }

pub eat-requires-clause-own : goal.eat-requires-clause-own
eat-requires-clause-own g c i fork at =
    let meal = c.begin-meal.result in
    let is = c.begin-meal.ensures.meal in
    let within = slice_get_within meal.forks i fork at in
    let fits : FitsMeal c.begin-meal.new.self i fork = subst (FitsMeal c.begin-meal.new.self i) (get_or_from_slice_get meal.forks i fork fork at) (is.forks i fork (omega (arith, within, is.count))) in
    (fits.fits.here ∙ sym is.site, ap (λ (s : ℕ). meals_of s fork.log) is.site ∙ fits.fits.eaten ∙ sym is.k)

pub eat-requires-clause-whole : goal.eat-requires-clause-whole
eat-requires-clause-whole g c =
    let running = c.requires.ready.running in
    let plan = running.0 in
    let before = running.2 in
    let began = c.begin-meal.ensures.step plan before.state before.has.keeps before.has.stands in
    let meal = c.begin-meal.ensures.meal in
    let site = meal.site ∙ ap (λ (core : SeenCore). core.site) c.begin-meal.ensures.core in
    (plan, whole_meal plan _ c.begin-meal.new.self c.begin-meal.result began.stands began.keeps meal, subst (g.D.Diner.expects c.args.self.now.diner plan) (sym site) c.requires.ready.expects)

pub note-requires-2 : goal.note-requires-2
note-requires-2 g c =
    let old = c.args.self.now.journal.items in
    let longer = ap (λ (kinds : List EventKind). length kinds) c.note.ensures.journal in
    omega (arith, c.requires.room, longer, length-append old (event.Begin ∷ []), c.note.ensures.capacity, c.note.new.journal.ok.0, c.args.self.now.journal.ok.0)

pub note-requires : goal.note-requires
note-requires g c = omega (arith, c.requires.room)
