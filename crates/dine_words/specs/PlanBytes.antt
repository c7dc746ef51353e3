-- Which bytes are the text of a plan, and why others are refused.
use Rattle.std.specs.Prelude.{◌≡◌, ℕ, List, Option, Some, None, if◌then◌else◌}
use Rattle.std.specs.Str.{is_utf8}
use Rattle.dine_graph.specs.Plan.{SeenPlan}
use Rattle.dine_reader.specs.PlanOf.{IsPlanOf}
use Rattle.dine_reader.specs.RefusalTests.{first_fault}
use Rattle.dine_draft.specs.declared.plan_fault.PlanFault.{PlanFault}
use Rattle.dine_draft.specs.declared.plan_fault.PlanFault.TheVariants as fault

-- why the bytes are refused, if they are: bytes that are no text are no TOML
abbrev pub fault_of_bytes : List ℕ → Option PlanFault
fault_of_bytes bytes = if is_utf8 bytes then first_fault bytes else Some fault.NotToml

-- the bytes are the text of the plan, and nothing in them is refused
pub record IsPlanBytes (bytes : List ℕ) (plan : SeenPlan) : Type 0 where
  pub unrefused : fault_of_bytes bytes ≡ None
  pub plan_of_text : IsPlanOf bytes plan
