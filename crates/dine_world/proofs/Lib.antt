pub mod shared
pub mod all_sites
pub mod enabled_events
