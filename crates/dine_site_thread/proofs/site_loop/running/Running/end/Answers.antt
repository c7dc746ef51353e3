use Rattle.std.proofs.Common.{ℕ, refl, sym, subst}
use Rattle.dine_site_thread.specs.private.Running.{SeenRun, seen_run}
use Rattle.dine_site_thread.specs.SiteEnds.{IsSiteEnd}
use Rattle.dine_site_thread.proofs.one_site.Ends.{site_end}
use Rattle.dine_site_thread.proofs.site_loop.running.Running.end.Goals as goal

pub returns-clause-end : goal.returns-clause-end
returns-clause-end g c plan given may =
    let run : SeenRun g.L.Lane.Identity = seen_run g.L.Lane c.args.self in
    let forks = c.into_parts-parts.result.forks.items in
    let tokens = c.into_parts-parts.result.tokens.items in
    let ended = site_end plan given run forks tokens c.into_parts-parts.ensures.forks_by_lists c.into_parts-parts.ensures.tokens_by_lists c.letters_cut_short_are_in_order.ensures.front c.letters_cut_short_are_in_order.ensures.closed c.args.stray c.args.fault may in
    let sited = subst (λ (n : ℕ). IsSiteEnd run.manner plan run.core.site given (record { site = n; ate = run.core.ate; forks = forks; tokens = tokens; journal = run.journal; ports = run.ports; bell = run.bell; stray = c.args.stray; fault = c.args.fault })) (sym c.site-site.ensures) ended in
    subst (λ (n : ℕ). IsSiteEnd run.manner plan run.core.site given (record { site = c.site-site.result; ate = n; forks = forks; tokens = tokens; journal = run.journal; ports = run.ports; bell = run.bell; stray = c.args.stray; fault = c.args.fault })) (sym c.ate-ate.ensures) sited

pub returns-clause-ate : goal.returns-clause-ate
returns-clause-ate g c = c.ate-ate.ensures

pub returns-clause-failed : goal.returns-clause-failed
returns-clause-failed g c = refl

pub returns-clause-journal : goal.returns-clause-journal
returns-clause-journal g c = refl

pub returns-clause-clock : goal.returns-clause-clock
returns-clause-clock g c = refl

pub returns-clause-left : goal.returns-clause-left
returns-clause-left g c = refl

pub returns-clause-bell : goal.returns-clause-bell
returns-clause-bell g c = refl

pub returns-clause-diner : goal.returns-clause-diner
returns-clause-diner g c = refl

pub returns-clause-reported : goal.returns-clause-reported
returns-clause-reported g c = refl

pub returns-clause-log : goal.returns-clause-log
returns-clause-log g c = refl
