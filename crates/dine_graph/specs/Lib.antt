pub mod Plan
pub mod Job
pub mod Site
pub mod private
pub mod Dot
pub mod Ids
