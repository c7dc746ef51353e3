pub mod Faults
pub mod Notes
pub mod Runs
pub mod Arrivals
pub mod Carried
