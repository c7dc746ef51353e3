pub mod shared
pub mod FirstLemmas
pub mod FormLemmas
pub mod IndexLemmas
pub mod ReadLemmas
pub mod VersionLemmas
