use Rattle.std.proofs.Common.{Some, option_map, sym, ap, ◌∙◌}
use Rattle.dine_rules.specs.Local.{LocalState}
use Rattle.dine_world.proofs.world.World.phase.Goals as goal

pub returns-in_err-core : goal.returns-in_err-core
returns-in_err-core c plan world stands = c.from_residual.ensures ∙ sym (ap (option_map (λ (state : LocalState). state.phase)) (c.in_err-core.ensures plan world stands))

pub returns : goal.returns
returns c plan world stands =
    let here = c.in_ok-core.ensures plan world stands in
    ap Some (c.phase.ensures ∙ here.1.phase) ∙ sym (ap (option_map (λ (state : LocalState). state.phase)) here.0)
