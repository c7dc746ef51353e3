pub mod Document
pub mod PlanOf
pub mod RefusalTests
pub mod RefusalFacts
pub mod private
pub use Rattle.dine_draft.specs.Draft
pub use Rattle.dine_draft.specs.Fault
pub use Rattle.dine_draft.specs.Refusals
