-- Which plans are refused, and how a refusal reads.
use Rattle.std.specs.Prelude.{◌≡◌, ◌⊎◌, ℕ, List, ◌++◌, Option, Some, None, codes}
use Rattle.std.specs.Fmt.{decimal}
use Rattle.core.specs.Fmt.Cut.{IsTextOrCut}
use Rattle.std.specs.Str.{IsUtf8}
use Rattle.dine_graph.specs.Plan.{SeenPlan}
use Rattle.dine_draft.specs.declared.plan_fault.PlanFault.{PlanFault}
use Rattle.dine_draft.specs.declared.plan_fault.PlanFault.TheVariants.{NotToml, Memory}
use Rattle.dine_draft.specs.declared.plan_fault.About.{About}
use Rattle.dine_draft.specs.declared.plan_fault.About.TheVariants as about
use Rattle.dine_draft.specs.Fault.{about_of, number_of_fault, plan_fault_words}
use Rattle.dine_reader.specs.PlanOf.{IsPlanOf}
use Rattle.dine_reader.specs.RefusalTests.{first_fault}
use Rattle.dine_web.specs.declared.refusals.Refusal.{Refusal}
use Rattle.dine_web.specs.declared.refusals.Refusal.TheVariants.{NoPlan, OutOfMemory, Closed, OpenAlready, NoEvent}

-- The bytes are the text of this plan, which is not refused.
pub record IsAccepted (bytes : List ℕ) (plan : SeenPlan) : Type 0 where
  pub utf8 : IsUtf8 bytes
  pub unrefused : first_fault bytes ≡ None
  pub is_plan : IsPlanOf bytes plan

-- Bytes are refused for this: they are no text, or the cause is the first of their text; or memory ran out.
abbrev pub IsRefused : List ℕ → Refusal → Type 0
IsRefused bytes (NoPlan fault) = (first_fault bytes ≡ Some fault) ⊎ ((IsUtf8 bytes → ⊥) × (fault ≡ NotToml))
IsRefused bytes OutOfMemory = Unit {0}
IsRefused bytes Closed = ⊥
IsRefused bytes OpenAlready = ⊥
IsRefused bytes NoEvent = ⊥

-- why a plan is refused for this cause
abbrev pub is_for : PlanFault → Refusal
is_for Memory = OutOfMemory
is_for fault = NoPlan fault

-- memory ran out
abbrev pub IsOfMemory : Refusal → Type 0
IsOfMemory refusal = refusal ≡ OutOfMemory

-- the site that a cause names
abbrev pub at_site : ℕ → List ℕ
at_site site = codes "{\"site\":" ++ decimal site ++ codes "}"

-- the edge that a cause names
abbrev pub at_edge : ℕ → List ℕ
at_edge edge = codes "{\"edge\":" ++ decimal edge ++ codes "}"

-- the site or the edge that a cause is about, if it is about one
abbrev pub named_text : About → List ℕ
named_text (about.Site site) = at_site site
named_text (about.Edge edge) = at_edge edge
named_text _ = codes "{}"

-- a refusal as JSON
abbrev pub refusal_text : Refusal → List ℕ
refusal_text (NoPlan fault) = codes "{\"refused\":{\"line\":\"plan refused: " ++ plan_fault_words fault ++ codes "\",\"fault\":"
    ++ decimal (number_of_fault fault) ++ codes ",\"at\":" ++ named_text (about_of fault) ++ codes "}}"
refusal_text OutOfMemory = codes "{\"refused\":{\"line\":\"out of memory\"}}"
refusal_text Closed = codes "{\"refused\":{\"line\":\"the handle is closed\"}}"
refusal_text OpenAlready = codes "{\"refused\":{\"line\":\"the handle is open\"}}"
refusal_text NoEvent = codes "{\"refused\":{\"line\":\"no such event\"}}"

-- The text is that of the refusal. That of a plan may be any that ends in dots instead, as one of more than 128 bytes
-- would: none is that long, but the kit does not say when a text is cut off.
abbrev pub Says : Refusal → List ℕ → Type 0
Says (NoPlan fault) text = IsTextOrCut 128 (refusal_text (NoPlan fault)) text
Says refusal text = text ≡ refusal_text refusal
