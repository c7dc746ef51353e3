pub mod Draft
pub mod DraftPlan
pub mod Explanation
pub mod private
pub mod Missing
