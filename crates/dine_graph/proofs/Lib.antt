pub mod shared
pub mod DotLemmas
pub mod SiteLemmas
