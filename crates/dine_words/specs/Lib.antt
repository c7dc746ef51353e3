pub mod Check
pub mod Choices
pub mod Input
pub mod Output
pub mod PlanBytes
pub mod Status
pub mod Words
pub mod private
