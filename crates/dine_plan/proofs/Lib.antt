pub mod DepthLemmas
pub mod MetLemmas
pub mod ReadLemmas
pub mod TableLemmas
