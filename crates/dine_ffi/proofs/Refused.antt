-- An open call that refuses a plan for want of memory.
use Rattle.std.proofs.Common.{◌≡◌, ℕ, ℤ, pos, negsuc, List, refl}
use Rattle.dine_draft.specs.declared.plan_fault.PlanFault.{PlanFault}
use Rattle.dine_draft.specs.declared.plan_fault.PlanFault.TheVariants.{Memory}
use Rattle.dine_ffi.specs.Answers.{IsDoneOr, memory}
use Rattle.dine_ffi.specs.Refusals.{IsRefusedFor, plan_status}

pub memory_is : (text : List ℕ) (result : ℤ) → IsDoneOr result (Unit {0}) (result ≡ memory) → IsDoneOr result (Unit {0}) ((fault : PlanFault) × IsRefusedFor text fault × (result ≡ plan_status fault))
memory_is text (pos n) h = tt
memory_is text (negsuc n) h = (Memory, (λ other. absurd (other refl)), h)
