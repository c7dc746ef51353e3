-- The enabled events of a world: the first, the n-th and how many, by the sets and counts that it keeps.
pub mod EnabledEvents
pub mod FirstEvents
pub mod EnabledSites
pub mod FirstSite
pub mod KindsNow
pub mod Inboxes
pub mod InboxPlaces
pub mod Counts
