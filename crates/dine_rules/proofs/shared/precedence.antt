-- Precedence: the preferred end of each edge, and that there is no cycle.
pub mod Preference
pub mod CleanFirst
pub mod PreferenceSteps
pub mod Orders
pub mod Acyclic
pub mod Earlier
