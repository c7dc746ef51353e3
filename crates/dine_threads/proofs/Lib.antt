pub mod shared
pub mod lists
pub mod all_sites
