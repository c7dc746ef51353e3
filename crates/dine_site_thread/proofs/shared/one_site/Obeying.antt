-- A site obeys the calls of its diner, from its first meal to its end: if it resigns, it stops at one that failed.
use Rattle.std.proofs.Common.{◌≡◌, Bool, true, false, not, ◌&&◌, ◌||◌, List, [], ◌∷◌, ◌++◌, refl, sym, ◌∙◌, ap, ap₂, append_assoc, append-nil}
use Rattle.std.proofs.lemmas.Bool.{and_from, and_parts, false_from_ne_true, lt-ltb, not-false, or_from, or_parts, or_right, true≢false}
use Rattle.std.proofs.lemmas.List.{append_cancel_left}
use Rattle.std.specs.Prelude.{nat_lt}
use Rattle.dine_graph.specs.Plan.{SeenPlan, job_count}
use Rattle.dine_rules.specs.declared.events.EventKind.{EventKind}
use Rattle.dine_rules.specs.declared.phase.Phase.{Phase}
use Rattle.dine_rules.specs.declared.phase.Phase.TheVariants.{Thinking, Hungry, Eating}
use Rattle.dine_rules.specs.Local.{LocalState, is_hungry, is_thinking}
use Rattle.dine_rules.specs.Streams.{KeepsStreams}
use Rattle.dine_site.specs.Core.{SeenCore, Refines}
use Rattle.dine_site.specs.Standing.{IsFreshFor}
use Rattle.dine_site_thread.specs.declared.diner.Call.{Call}
use Rattle.dine_site_thread.specs.Diners.{HasLastFailed, ObeysFailures, StopsAtFailed, shows_quit}
use Rattle.dine_site_thread.specs.private.Running.{IsObeying, last_failed, only_last_failed}

-- ---- lists of calls

last_failed-push : (calls : List Call) (call : Call) → last_failed (calls ++ call ∷ []) ≡ not call.ok
last_failed-push [] call = refl
last_failed-push (first ∷ []) call = refl
last_failed-push (first ∷ next ∷ calls) call = last_failed-push (next ∷ calls) call

only_last_failed-push : (calls : List Call) (call : Call) → only_last_failed calls ≡ true → last_failed calls ≡ false → only_last_failed (calls ++ call ∷ []) ≡ true
only_last_failed-push [] call only went = refl
only_last_failed-push (first ∷ []) call only went = and_from first.ok true (not-false first.ok went) refl
only_last_failed-push (first ∷ next ∷ calls) call only went =
    let parts = and_parts first.ok (only_last_failed (next ∷ calls)) only in
    and_from first.ok (only_last_failed (next ∷ calls ++ call ∷ [])) parts.0 (only_last_failed-push (next ∷ calls) call parts.1 went)

-- behind a call that failed there is none
none_behind : (calls before later : List Call) (call : Call) → only_last_failed calls ≡ true → calls ≡ before ++ call ∷ later → call.ok ≡ false → later ≡ []
none_behind calls before [] call only is failed = refl
none_behind [] [] (next ∷ later) call only is failed = absurd cc
none_behind [] (first ∷ before) (next ∷ later) call only is failed = absurd cc
none_behind (one ∷ []) [] (next ∷ later) call only is failed = absurd cc
none_behind (one ∷ []) (first ∷ []) (next ∷ later) call only is failed = absurd cc
none_behind (one ∷ []) (first ∷ second ∷ before) (next ∷ later) call only is failed = absurd cc
none_behind (one ∷ two ∷ calls) [] (next ∷ later) call only is failed =
    let same : one ≡ call = cc in
    absurd (true≢false (sym (and_parts one.ok (only_last_failed (two ∷ calls)) only).0 ∙ ap (λ (c : Call). c.ok) same ∙ failed))
none_behind (one ∷ two ∷ calls) (first ∷ before) (next ∷ later) call only is failed =
    let rest : two ∷ calls ≡ before ++ call ∷ next ∷ later = cc in
    none_behind (two ∷ calls) before (next ∷ later) call (and_parts one.ok (only_last_failed (two ∷ calls)) only).1 rest failed

stops_at : (old new added : List Call) → new ≡ old ++ added → only_last_failed added ≡ true → StopsAtFailed old new
stops_at old new added called only before later call split failed =
    none_behind added before later call only (append_cancel_left old added (before ++ call ∷ later) (sym called ∙ split ∙ append_assoc old before (call ∷ later))) failed

-- a list whose last call failed has a last one
has_last : (old new added : List Call) → new ≡ old ++ added → last_failed added ≡ true → HasLastFailed old new
has_last old new [] called failed = absurd (true≢false (sym failed))
has_last old new (call ∷ []) called failed = record { before = []; last = call; called = called ∙ sym (append_assoc old [] (call ∷ [])); failed = went call.ok failed } where
  went : (ok : Bool) → not ok ≡ true → ok ≡ false
  went false h = refl
  went true h = absurd cc
has_last old new (call ∷ next ∷ calls) called failed =
    let rest = has_last (old ++ call ∷ []) new (next ∷ calls) (called ∙ sym (append_assoc old (call ∷ []) (next ∷ calls))) failed in
    record { before = call ∷ rest.before; last = rest.last; called = rest.called ∙ ap (λ (calls : List Call). calls ++ rest.last ∷ []) (append_assoc old (call ∷ []) rest.before); failed = rest.failed }

-- ---- a site on its way

-- before the first meal
pub obeys_nothing : (resigns has_left : Bool) (first : List Call) → IsObeying resigns false has_left first first
obeys_nothing resigns has_left first = record { added = []; called = sym (append-nil first); stops = λ does. refl; drops_where = refl }

-- a hungry site neither has to quit nor has quit, and has meals left
no_thinker : (phase : Phase) → is_thinking phase ≡ true → is_hungry phase ≡ true → ⊥
no_thinker Thinking thinks hungry = absurd cc
no_thinker Hungry thinks hungry = absurd cc
no_thinker Eating thinks hungry = absurd cc

pub hungry_goes_on : (plan : SeenPlan) (state : LocalState) (core : SeenCore) → KeepsStreams plan core.site state → Refines plan state core → is_hungry core.phase ≡ true
    → (core.must_quit || core.has_quit ≡ false) × (nat_lt core.ate core.due ≡ true)
hungry_goes_on plan state core keeps stands hungry =
    let hungry_there : is_hungry state.phase ≡ true = ap is_hungry (sym stands.phase) ∙ hungry in (
      or_from core.must_quit core.has_quit
          (stands.must_quit ∙ false_from_ne_true state.must_quit (λ must. no_thinker state.phase (keeps.must_drop must).1 hungry_there))
          (stands.has_quit ∙ false_from_ne_true state.has_quit (λ has. no_thinker state.phase (keeps.has_dropped has).1 hungry_there)),
      ap (λ n. nat_lt n core.due) stands.ate ∙ ap (nat_lt state.ate) stands.due ∙ lt-ltb state.ate (job_count plan core.site) (keeps.hungry_has_left hungry_there),
    )

-- one meal more, after which it has to quit or not
alone : (b c : Bool) → c ≡ false → (b || c) ≡ b
alone true c none = refl
alone false c none = none

pub obeys_meal : (resigns must has has_left must' has_left' : Bool) (first old now : List Call) (call : Call) → IsObeying resigns (must || has) has_left first old → (must || has) ≡ false → has_left ≡ true
    → now ≡ old ++ call ∷ [] → must' ≡ (not call.ok && resigns && has_left') → IsObeying resigns (must' || has) has_left' first now
obeys_meal resigns must has has_left must' has_left' first old now call obeying goes_on left called must_is = record {
  added = obeying.added ++ call ∷ [];
  called = called ∙ ap (λ (calls : List Call). calls ++ call ∷ []) obeying.called ∙ append_assoc first obeying.added (call ∷ []);
  stops = λ does. only_last_failed-push obeying.added call (obeying.stops does) (went does);
  drops_where = alone must' has (or_parts must has goes_on).1 ∙ must_is ∙ ap (λ (b : Bool). b && resigns && has_left') (sym (last_failed-push obeying.added call));
} where
  went : resigns ≡ true → last_failed obeying.added ≡ false
  went does = false_from_ne_true (last_failed obeying.added) (λ failed.
      true≢false (sym (and_from (last_failed obeying.added && resigns) has_left (and_from (last_failed obeying.added) resigns failed does) left) ∙ sym obeying.drops_where ∙ goes_on))

-- the same, by what stays the same
pub obeying_as : (resigns drops has_left resigns' drops' has_left' : Bool) (first now now' : List Call) → resigns' ≡ resigns → drops' ≡ drops → has_left' ≡ has_left → now' ≡ now
    → IsObeying resigns drops has_left first now → IsObeying resigns' drops' has_left' first now'
obeying_as resigns drops has_left resigns' drops' has_left' first now now' resigns_is drops_is left_is now_is obeying = record {
  added = obeying.added;
  called = now_is ∙ obeying.called;
  stops = λ does. obeying.stops (sym resigns_is ∙ does);
  drops_where = drops_is ∙ obeying.drops_where ∙ ap₂ (λ (a b : Bool). last_failed obeying.added && a && b) (sym resigns_is) (sym left_is);
}

-- ---- its end

pub obeys_end : (resigns must has has_left : Bool) (journal : List EventKind) (first now : List Call) → IsObeying resigns (must || has) has_left first now → has ≡ shows_quit journal
    → ObeysFailures resigns journal first now
obeys_end resigns must has has_left journal first now obeying reported = record {
  stops = λ does. stops_at first now obeying.added obeying.called (obeying.stops does);
  quits = λ quit. has_last first now obeying.added obeying.called (and_parts (last_failed obeying.added) resigns (both quit)).0;
  resigned = λ quit. (and_parts (last_failed obeying.added) resigns (both quit)).1;
} where
  both : shows_quit journal ≡ true → last_failed obeying.added && resigns ≡ true
  both quit = (and_parts (last_failed obeying.added && resigns) has_left (sym obeying.drops_where ∙ or_right must has (reported ∙ quit))).0

-- a site that was not started ate nothing
pub obeys_none : (resigns : Bool) (journal : List EventKind) (first : List Call) → journal ≡ [] → ObeysFailures resigns journal first first
obeys_none resigns journal first none = obeys_end resigns false false false journal first first (obeys_nothing resigns false first) (sym (ap shows_quit none))

-- before its first step a site obeys what its diner did not do yet
pub obeys_fresh : (plan : SeenPlan) (core : SeenCore) (first : List Call) → IsFreshFor plan core → IsObeying core.resigns (core.must_quit || core.has_quit) (nat_lt core.ate core.due) first first
obeys_fresh plan core first fresh =
    obeying_as core.resigns false (nat_lt core.ate core.due) core.resigns (core.must_quit || core.has_quit) (nat_lt core.ate core.due) first first first refl
    (or_from core.must_quit core.has_quit fresh.stands.must_quit fresh.stands.has_quit) refl refl (obeys_nothing core.resigns (nat_lt core.ate core.due) first)

-- the same, for equal journals and equal calls
pub obeys_as : (resigns resigns' : Bool) (journal journal' : List EventKind) (first now now' : List Call) → resigns' ≡ resigns → journal' ≡ journal → now' ≡ now
    → ObeysFailures resigns journal first now → ObeysFailures resigns' journal' first now'
obeys_as resigns resigns' journal journal' first now now' resigns_is journal_is now_is obeys = record {
  stops = λ does before later call split failed. obeys.stops (sym resigns_is ∙ does) before later call (sym now_is ∙ split) failed;
  quits = λ quit. (let had = obeys.quits (ap shows_quit (sym journal_is) ∙ quit) in record { before = had.before; last = had.last; called = now_is ∙ had.called; failed = had.failed });
  resigned = λ quit. resigns_is ∙ obeys.resigned (ap shows_quit (sym journal_is) ∙ quit);
}
