pub mod shared
pub mod Arriving
pub mod CarriedLists
pub mod CarriedLinks
pub mod CarriedSites
