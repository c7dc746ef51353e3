-- The lemmas that other crates cite. No other file of proofs/ may be cited from another crate.
pub mod lists
pub mod one_place
pub mod one_site
pub mod links
pub mod counting
pub mod precedence
pub mod ends_of_runs
pub mod two_ends
pub mod journals
pub mod timed
