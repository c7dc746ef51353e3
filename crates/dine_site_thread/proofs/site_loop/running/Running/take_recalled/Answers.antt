use Rattle.std.proofs.Common.{◌≤◌, ◌∷◌, [], inl, inr, length, refl, sym, ◌∙◌, arith}
use Rattle.std.proofs.lemmas.List.{append-nil}
use Rattle.dine_rules.specs.declared.events.EventKind.TheVariants as event
use Rattle.dine_site_thread.specs.Threads.{Forgets, Recalls}
use Rattle.dine_site_thread.proofs.one_site.Working.{worked_more}
use Rattle.dine_site_thread.proofs.site_loop.running.Running.take_recalled.Goals as goal

pub take-requires-clause-not_closed : goal.take-requires-clause-not_closed
take-requires-clause-not_closed g c κs ls plan state keeps stands = sym (c.has_taken_close.ensures.by_lists plan state keeps stands) ∙ c.if-has_taken_close.false

pub take-requires-clause-running : goal.take-requires-clause-running
take-requires-clause-running g c κs ls = c.requires.running

pub take-requires-clause-turn : goal.take-requires-clause-turn
take-requires-clause-turn g c κs ls = c.requires.turn

pub returns-clause-way : goal.returns-clause-way
returns-clause-way g c = c.take.ensures.way

pub returns-clause-same : goal.returns-clause-same
returns-clause-same g c = c.take.ensures.same

pub returns-clause-timed : goal.returns-clause-timed
returns-clause-timed g c = c.take.ensures.timed

pub returns-clause-checks : goal.returns-clause-checks
returns-clause-checks g c = c.take.ensures.checks

-- ---- what the thread did

pub returns-clause-works : goal.returns-clause-works
returns-clause-works g c plan given (running, memo, was, first, recalled) =
    let run = c.args.self.now in
    let i = c.args.place in
    c.take.ensures.works plan given (
      running,
      λ letter allowed. worked_more run.manner plan (Recalls i letter) (event.Take i ∷ []) was (c.requires.turn plan running.state running.has.keeps running.has.stands, first) (allowed, refl) refl refl refl recalled refl,
    )

pub returns-then-has_taken_close-clause-works : goal.returns-then-has_taken_close-clause-works
returns-then-has_taken_close-clause-works g c plan given (running, memo, was, first, recalled) =
    let run = c.args.self.now in
    let closed = sym (c.has_taken_close.ensures.by_lists plan running.state running.has.keeps running.has.stands) ∙ c.if-has_taken_close.true in
    (running, worked_more run.manner plan (Forgets c.args.place) [] was (first, inr closed) refl refl refl (sym (append-nil run.journal.items)) recalled (sym (append-nil run.log.deeds)))

pub returns-then-place-degree-clause-works : goal.returns-then-place-degree-clause-works
returns-then-place-degree-clause-works g c plan given (running, memo, was, first, recalled) =
    let run = c.args.self.now in
    let beyond : length running.state.traffic ≤ c.args.place = omega (arith, c.if-place-degree.true, c.degree.ensures, running.has.stands.degree) in
    (running, worked_more run.manner plan (Forgets c.args.place) [] was (first, inl beyond) refl refl refl (sym (append-nil run.journal.items)) recalled (sym (append-nil run.log.deeds)))
