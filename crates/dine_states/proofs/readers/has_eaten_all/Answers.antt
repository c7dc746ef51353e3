use Rattle.std.proofs.Common.{ℕ, Some, nat_eq, ◌∙◌, ap}
use Rattle.dine_rules.specs.Local.{LocalState}
use Rattle.dine_rules.specs.World.{state_of}
use Rattle.dine_states.proofs.Reading.{site_read, site_there, sites_kept}
use Rattle.dine_states.proofs.readers.has_eaten_all.Goals as goal

pub returns-in-Some : goal.returns-in-Some
returns-in-Some c state is =
    ap (λ (n : ℕ). nat_eq n c.jobs.result) (site_read (λ (st : LocalState). st.ate) state c.args.site (Some c.in-Some.meals) (c.in-Some.ensures c.args.plan.now state is))
    ∙ ap (λ (n : ℕ). nat_eq (state_of state c.args.site).ate n) c.jobs.ensures.count

pub returns-in-None : goal.returns-in-None
returns-in-None c state is =
    absurd (site_there (λ (st : LocalState). st.ate) c.args.plan.now state c.args.site (sites_kept c.args.plan.now state is.reached) c.requires (c.in-None.ensures c.args.plan.now state is))
