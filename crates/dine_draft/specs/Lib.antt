pub mod Draft
pub mod Fault
pub mod Refusals
