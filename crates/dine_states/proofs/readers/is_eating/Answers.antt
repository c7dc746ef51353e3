use Rattle.std.proofs.Common.{Some, None, ◌∙◌, ap}
use Rattle.dine_rules.specs.Local.{LocalState, is_eating}
use Rattle.dine_states.proofs.Reading.{site_read}
use Rattle.dine_states.proofs.readers.is_eating.Goals as goal

pub returns-in-Some : goal.returns-in-Some
returns-in-Some c plan world is = c.is_phase_eating.ensures ∙ ap is_eating (site_read (λ (st : LocalState). st.phase) world c.args.site (Some c.in-Some.phase) (c.in-Some.ensures plan world is))

pub returns-in-None : goal.returns-in-None
returns-in-None c plan world is = ap is_eating (site_read (λ (st : LocalState). st.phase) world c.args.site None (c.in-None.ensures plan world is))
