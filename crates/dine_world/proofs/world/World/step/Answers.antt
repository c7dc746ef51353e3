use Rattle.std.proofs.Common.{refl, sym, ◌∙◌}
use Rattle.dine_world.proofs.all_sites.CanHappen.{can_happen_is}
use Rattle.dine_world.proofs.world.World.step.Goals as goal

pub returns-then-not-can_happen-clause-exact : goal.returns-then-not-can_happen-clause-exact
returns-then-not-can_happen-clause-exact c plan world stands = sym c.if-not-can_happen.true ∙ c.can_happen.ensures ∙ can_happen_is plan world c.args.self.now stands c.args.event

pub returns-clause-exact : goal.returns-clause-exact
returns-clause-exact c plan world stands = sym c.if-not-can_happen.false ∙ c.can_happen.ensures ∙ can_happen_is plan world c.args.self.now stands c.args.event

pub returns-then-not-can_happen-clause-done : goal.returns-then-not-can_happen-clause-done
returns-then-not-can_happen-clause-done c = refl
