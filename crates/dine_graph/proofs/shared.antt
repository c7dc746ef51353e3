-- The lemmas that other crates cite. No other file of proofs/ may be cited from another crate.
pub mod ListLemmas
pub mod PlaceLemmas
pub mod JobLemmas
