use Rattle.std.proofs.Common.{Bool, ◌||◌, sym, ◌∙◌, ap}
use Rattle.dine_rules.specs.World.{state_of}
use Rattle.dine_states.proofs.readers.has_no_job_left.Goals as goal

pub returns-then-has_eaten_all : goal.returns-then-has_eaten_all
returns-then-has_eaten_all c state is = sym (ap (λ (b : Bool). b || (state_of state c.args.site).has_quit) (sym (c.has_eaten_all.ensures state is) ∙ c.if-has_eaten_all.true))

pub returns : goal.returns
returns c state is = c.has_quit.ensures state is ∙ sym (ap (λ (b : Bool). b || (state_of state c.args.site).has_quit) (sym (c.has_eaten_all.ensures state is) ∙ c.if-has_eaten_all.false))
