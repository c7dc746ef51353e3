-- What no public contract names: how values are kept, and what private functions promise one another.
pub mod EnabledSites
pub mod Counts
pub mod Forks
pub mod Inboxes
pub mod Found
pub mod WorldFields
pub mod StepsOfSites
