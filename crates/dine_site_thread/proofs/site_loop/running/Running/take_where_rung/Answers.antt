use Rattle.std.proofs.Common.{◌≡◌, ◌≤◌, ◌++◌, ◌∷◌, List, Bool, true, slice_set, [], inl, inr, length, refl, sym, ap, subst, ◌∙◌, arith}
use Rattle.std.proofs.lemmas.List.{append_assoc, append-nil}
use Rattle.dine_rules.specs.declared.events.EventKind.TheVariants as event
use Rattle.dine_rules.specs.Steps.{Take, after}
use Rattle.dine_link.specs.declared.deed.Deed.{Deed}
use Rattle.dine_link.specs.declared.deed.Deed.TheVariants.{Did}
use Rattle.dine_link.specs.Deeds.{hearing}
use Rattle.dine_site_thread.specs.Threads.{HasWorked, Memo, PassesOver, PutsOff, Takes}
use Rattle.dine_site_thread.specs.private.Running.{memo_of}
use Rattle.dine_site_thread.proofs.one_site.PutOff.{same_from}
use Rattle.dine_site_thread.proofs.one_site.Working.{worked_more}
use Rattle.dine_site_thread.proofs.site_loop.running.Running.take_where_rung.Goals as goal

pub take-requires-clause-not_closed : goal.take-requires-clause-not_closed
take-requires-clause-not_closed g c κs ls plan state keeps stands = sym (c.has_taken_close.ensures.by_lists plan state keeps stands) ∙ c.if-has_taken_close.false

pub take-requires-clause-running : goal.take-requires-clause-running
take-requires-clause-running g c κs ls = c.requires.running

pub take-requires-clause-turn : goal.take-requires-clause-turn
take-requires-clause-turn g c κs ls = c.requires.turn

pub returns-clause-way : goal.returns-clause-way
returns-clause-way g c = c.take.ensures.way

pub returns-clause-same : goal.returns-clause-same
returns-clause-same g c = same_from c.puts_off.new.put_off c.args.self.now c.take.new.self c.take.ensures.same

pub returns-clause-timed : goal.returns-clause-timed
returns-clause-timed g c = c.take.ensures.timed

pub returns-clause-checks : goal.returns-clause-checks
returns-clause-checks g c = c.take.ensures.checks

-- ---- what the thread did

pub returns-clause-works : goal.returns-clause-works
returns-clause-works g c plan given (running, before, slept, was, heard, may_sleep) =
    let run = c.args.self.now in
    let i = c.args.i in
    let memo : Memo = memo_of run in
    let same : c.puts_off.new.put_off ≡ run.put_off = rw c.if-puts_off.false at c.puts_off.ensures.marks in
    let works = c.take.ensures.works plan given in
    works (
      running,
      λ letter allowed. subst (λ (marks : List Bool). HasWorked run.manner plan run.core.site (run.journal.items ++ event.Take i ∷ []) (after plan run.core.site running.state (Take i letter)) (record memo { put_off = marks }) (run.log.deeds ++ Did (event.Take i) ∷ [])) (sym same)
          (worked_more run.manner plan (Takes slept i letter) (event.Take i ∷ []) was (c.requires.turn plan running.state running.has.keeps running.has.stands, may_sleep) (allowed, refl) refl refl refl refl
          (ap (λ (ds : List Deed). ds ++ Did (event.Take i) ∷ []) heard ∙ append_assoc before (hearing slept i) (Did (event.Take i) ∷ []))),
    )

pub returns-then-has_taken_close-clause-works : goal.returns-then-has_taken_close-clause-works
returns-then-has_taken_close-clause-works g c plan given (running, before, slept, was, heard, may_sleep) =
    let run = c.args.self.now in
    let closed = sym (c.has_taken_close.ensures.by_lists plan running.state running.has.keeps running.has.stands) ∙ c.if-has_taken_close.true in
    (running, worked_more run.manner plan (PassesOver slept c.args.i) [] was (c.requires.turn plan running.state running.has.keeps running.has.stands, may_sleep, inr closed) refl refl refl (sym (append-nil run.journal.items)) refl heard)

pub returns-then-i-degree-clause-works : goal.returns-then-i-degree-clause-works
returns-then-i-degree-clause-works g c plan given (running, before, slept, was, heard, may_sleep) =
    let run = c.args.self.now in
    let beyond : length running.state.traffic ≤ c.args.i = omega (arith, c.if-i-degree.true, c.degree.ensures, running.has.stands.degree) in
    (running, worked_more run.manner plan (PassesOver slept c.args.i) [] was (c.requires.turn plan running.state running.has.keeps running.has.stands, may_sleep, inl beyond) refl refl refl (sym (append-nil run.journal.items)) refl heard)

pub returns-then-puts_off-clause-works : goal.returns-then-puts_off-clause-works
returns-then-puts_off-clause-works g c plan given (running, before, slept, was, heard, may_sleep) =
    let run = c.args.self.now in
    let memo : Memo = memo_of run in
    let marks : c.puts_off.new.put_off ≡ slice_set run.put_off c.args.i true = rw c.if-puts_off.true at c.puts_off.ensures.marks in
    let off = c.if-puts_off.true in (
      running,
      worked_more run.manner plan (PutsOff slept c.args.i) [] was
          (c.requires.turn plan running.state running.has.keeps running.has.stands, may_sleep, c.puts_off.ensures.may off plan running.state running.has.keeps running.has.stands, c.puts_off.ensures.first off, c.puts_off.ensures.manner off)
          refl refl refl (sym (append-nil run.journal.items)) (ap (λ (ms : List Bool). record memo { put_off = ms }) marks) heard,
    )
