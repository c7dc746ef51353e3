pub mod shared
pub mod Periods
pub mod LawfulPeriods
pub mod Places
pub mod Contents
