use Rattle.std.proofs.Common.{◌≡◌, ℕ, false, List, None, ap, sym, subst, ◌∙◌}
use Rattle.std.proofs.lemmas.Bool.{false_from_ne_true}
use Rattle.toml.specs.Data.{table}
use Rattle.dine_graph.specs.Plan.{SeenPlan}
use Rattle.dine_reader.specs.PlanOf.{IsPlain, IsPlanOf}
use Rattle.dine_reader.specs.RefusalTests.{fault_of, first_fault, first_refusal, refuses_unknown_key}
use Rattle.dine_draft.specs.declared.plan_fault.PlanFault.TheVariants.{UnknownKey}
use Rattle.dine_reader.proofs.FirstLemmas.{none_holds}
use Rattle.dine_reader.proofs.VersionLemmas.{plain_plan}
use Rattle.dine_reader.proofs.laws.first_version_has_no_values.Goals as goal

pub returns : goal.returns
returns c = record { plain = plain } where
  plain : (text : List ℕ) (p : SeenPlan) → first_fault text ≡ None → IsPlanOf text p → p.version ≡ 1 → IsPlain p
  plain text p fine is one =
      let doc = table is.0 in
      let none : first_refusal doc ≡ None = sym (ap fault_of is.1) ∙ fine in
      let known : refuses_unknown_key doc ≡ false = false_from_ne_true _ (none_holds doc UnknownKey none) in
      let first = ap (λ (q : SeenPlan). q.version) (sym is.2) ∙ one in
      subst IsPlain (sym is.2) (plain_plan doc known first)
