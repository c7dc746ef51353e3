-- The lemmas that other crates cite. No other file of proofs/ may be cited from another crate.
pub mod all_sites
