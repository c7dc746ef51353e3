-- The lemmas that other crates cite. No other file of proofs/ may be cited from another crate.
pub mod Logs
pub mod Lawfulness
pub mod Bounds
pub mod Forks
