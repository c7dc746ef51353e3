use Rattle.std.proofs.Common.{◌≡◌, ◌++◌, ℕ, List, [], refl, sym, ap, ◌∙◌}
use Rattle.dine_link.specs.Bells.{SeenBell}
use Rattle.dine_site_thread.specs.Doings.{empty_checks_of}
use Rattle.std.proofs.lemmas.Option.{none-some}
use Rattle.dine_site_thread.specs.declared.site_end.SiteFault.TheVariants as site_fault
use Rattle.dine_threads.proofs.starts.run_start.Goals as goal

pub returns-then-pass : goal.returns-then-pass
returns-then-pass g c =
    let ended = rw c.unpack-core.ensures at c.run_site_with.ensures.end in
    let obeys = rw c.unpack-core.ensures at c.run_site_with.ensures.obeys in
    let threads = rw c.unpack-core.ensures at c.run_site_with.ensures.threads in
    record { threads = threads; left = λ plan fresh. (ended plan fresh).left; eaten = c.run_site_with.ensures.eaten; timed = c.run_site_with.ensures.timed; obeys = obeys; checks = c.run_site_with.ensures.checks ∙ ap (λ (first : List ℕ). first ++ empty_checks_of c.args.start.manner c.run_site_with.result.journal.items) c.requires.unchecked }

pub returns : goal.returns
returns g c =
    let left_it = rw c.unpack-core.ensures at c.not_started.ensures.left in
    let obeys = rw c.unpack-core.ensures at c.not_started.ensures.obeys in
    record { threads = λ none. absurd (none-some site_fault.NotStarted (sym none ∙ c.not_started.ensures.fault)); left = λ plan fresh. left_it plan fresh c.args.start.manner; eaten = c.not_started.ensures.eaten; timed = λ none. absurd (none-some site_fault.NotStarted (sym none ∙ c.not_started.ensures.fault)); obeys = obeys; checks = ap (λ (bell : SeenBell). bell.found_empty) c.not_started.ensures.bell ∙ c.requires.unchecked ∙ sym (ap (empty_checks_of c.args.start.manner) c.not_started.ensures.journal) }

pub not_started-requires-clause-fresh : goal.not_started-requires-clause-fresh
not_started-requires-clause-fresh g c κs ls =
    let starts = rw (sym c.unpack-core.ensures) at c.requires.fresh in
    (starts.0, starts.1)
