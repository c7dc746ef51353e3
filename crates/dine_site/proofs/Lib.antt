pub mod shared
pub mod one_site
pub mod own_events
