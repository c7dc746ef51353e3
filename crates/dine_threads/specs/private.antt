-- What no public contract names: what private functions promise one another.
pub mod Collecting
pub mod Openings
pub mod SiteStarts
pub mod Setups
pub mod Spots
pub mod Wirings
