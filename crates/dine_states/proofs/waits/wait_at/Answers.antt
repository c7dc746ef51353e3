use Rattle.std.proofs.Common.{◌≡◌, ℕ, true, ap, subst, sym}
use Rattle.dine_rules.specs.World.{place_of}
use Rattle.dine_rules.specs.Local.{neighbour_at}
use Rattle.dine_states.specs.Waits.{keeps_by}
use Rattle.dine_states.proofs.waits.wait_at.Goals as goal

pub returns-clause-is : goal.returns-clause-is
returns-clause-is c state is kept =
    let plan = c.args.plan.now in
    let end = c.args.end in record {
      edge = sym c.requires.is_at;
      from = c.requires.neighbour;
      why = subst (λ (o : ℕ). keeps_by plan state end.site end.place (neighbour_at plan end.site end.place) o c.cause_at.result ≡ true) (ap (place_of plan (neighbour_at plan end.site end.place)) (sym c.requires.is_at))
          (subst (λ (o : ℕ). keeps_by plan state end.site end.place o (place_of plan o end.edge) c.cause_at.result ≡ true) c.requires.neighbour (c.cause_at.ensures state is kept));
    }
