-- Ends of runs: how many events lead there.
pub mod RunCounts
