-- The lemmas that other crates cite. No other file of proofs/ may be cited from another crate.
pub mod ListLemmas
pub mod NameLemmas
pub mod Searches
pub mod PlanLemmas
pub mod PlainLemmas
