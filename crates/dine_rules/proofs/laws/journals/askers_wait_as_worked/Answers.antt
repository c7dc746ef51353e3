-- each is computed
use Rattle.std.proofs.Common.{[], ◌∷◌, refl}
use Rattle.dine_rules.specs.declared.events.EventKind.TheVariants.{Give}
use Rattle.dine_rules.proofs.laws.journals.askers_wait_as_worked.Goals as goal

pub returns : goal.returns
returns c = record {
  clean = refl;
  eats_once = refl;
  waits = record { rest = Give 0 ∷ []; edge = 0; stands = refl; asked = refl; not_given = refl };
  not_twice = refl;
  dirty = refl;
  gives = refl;
  not_before = refl;
}
