-- One core: its places represent a state, each test and each step for the state's, and a breach for the first by the
-- whole lists.
pub mod PlacesAfter
pub mod Stands
pub mod Opened
pub mod Degrees
pub mod SiteTests
pub mod Breaches
pub mod Eating
pub mod Ending
