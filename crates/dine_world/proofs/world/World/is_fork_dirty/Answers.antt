use Rattle.std.proofs.Common.{◌≡◌, Option, Some, sym, ◌∙◌, ap, subst}
use Rattle.std.specs.Option.{option_map}
use Rattle.dine_token.specs.Log.{is_dirty}
use Rattle.dine_graph.specs.Plan.{SeenPlan}
use Rattle.dine_world.specs.declared.world.whereabouts.Whereabouts.{Whereabouts}
use Rattle.dine_world.specs.declared.world.whereabouts.Whereabouts.TheVariants.{At, To}
use Rattle.dine_world.specs.Whereabouts.{IsForkAt, ReportsWhere, is_fork_dirty}
use Rattle.dine_rules.specs.World.{WorldState}
use Rattle.dine_world.proofs.all_sites.Whereabouts.{dirty_at, dirty_on_way, fork_not_none, log_seen, not_said, said_of_edge}
use Rattle.dine_world.proofs.world.World.is_fork_dirty.Goals as goal

-- what was found is so
found_so : (plan : SeenPlan) (world : WorldState) (e : _) (answer : Option Whereabouts) (here : Whereabouts) → ReportsWhere plan e (IsForkAt plan world e) answer → answer ≡ Some here → IsForkAt plan world e here
found_so plan world e answer here tells same = (subst (ReportsWhere plan e (IsForkAt plan world e)) same tells).there

pub returns-in_err-where_is_fork : goal.returns-in_err-where_is_fork
returns-in_err-where_is_fork c plan world is =
    let e = c.args.edge in
    let tells = subst (ReportsWhere plan e (IsForkAt plan world e)) (c.in_err-where_is_fork.was) (c.where_is_fork.ensures plan world is) in
    c.from_residual.ensures ∙ not_said plan world _ is e (is_fork_dirty plan world e) tells.there

pub returns-in_err-fork-in-At : goal.returns-in_err-fork-in-At
returns-in_err-fork-in-At c plan world is =
    let e = c.args.edge in
    let here = found_so plan world e c.where_is_fork.result (At c.in-At.field-0) (c.where_is_fork.ensures plan world is) (c.in_ok-where_is_fork.was ∙ ap (λ (x : Whereabouts). Some x) c.in-At.is) in
    absurd (fork_not_none plan world _ is e here.0.0 (sym (ap (option_map (λ x. x.now)) c.in_err-fork-in-At.was) ∙ c.fork.ensures plan world is))

pub returns-in_ok-fork-in-At : goal.returns-in_ok-fork-in-At
returns-in_ok-fork-in-At c plan world is =
    let e = c.args.edge in
    let here = found_so plan world e c.where_is_fork.result (At c.in-At.field-0) (c.where_is_fork.ensures plan world is) (c.in_ok-where_is_fork.was ∙ ap (λ (x : Whereabouts). Some x) c.in-At.is) in
    let log = log_seen plan world _ is e c.in_ok-fork-in-At.fork.now here.0.0 (sym (ap (option_map (λ x. x.now)) (c.in_ok-fork-in-At.was)) ∙ c.fork.ensures plan world is) in
    said_of_edge plan world _ is e _ _ here.0.0 (c.is_dirty.ensures.dirty ∙ ap is_dirty log ∙ sym (dirty_at plan world _ is e c.in-At.field-0 here))

pub returns-in-To : goal.returns-in-To
returns-in-To c plan world is =
    let e = c.args.edge in
    let coming = found_so plan world e c.where_is_fork.result (To c.in-To.field-0) (c.where_is_fork.ensures plan world is) (c.in_ok-where_is_fork.was ∙ ap (λ (x : Whereabouts). Some x) c.in-To.is) in
    said_of_edge plan world _ is e _ _ coming.0.0 (sym (dirty_on_way plan world _ is e c.in-To.field-0 coming))
