-- The lemmas that other crates cite. No other file of proofs/ may be cited from another crate.
pub mod lists
pub mod one_site
pub mod own_events
