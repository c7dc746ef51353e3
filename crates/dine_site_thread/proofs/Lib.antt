pub mod shared
pub mod lists
pub mod one_site
