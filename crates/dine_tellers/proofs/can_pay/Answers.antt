use Rattle.std.proofs.Common.{◌≡◌, ℕ, ◌<◌, ◌≤◌, inl, inr, subst, sym, arith}
use Rattle.std.proofs.lemmas.Bool.{cases_lt}
use Rattle.dine_graph.specs.Plan.{job_count}
use Rattle.dine_tellers.specs.declared.TheConstants.{START}
use Rattle.dine_tellers.proofs.can_pay.Goals as goal

pub loop-site-preserved : goal.loop-site-preserved
loop-site-preserved c = λ s within.
    elim (cases_lt s c.loop-site.site) [
      | inl earlier ↦ c.loop-site.invariant s earlier
      | inr last ↦
          let is : s ≡ c.loop-site.site = omega arith in
          subst (λ (t : ℕ). job_count c.args.plan.now t ≤ START) (sym is) (omega arith)
    ]
