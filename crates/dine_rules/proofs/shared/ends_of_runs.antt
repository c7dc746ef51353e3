-- Ends of runs: if no event is enabled, all meals are eaten, all links are closed, and each log is whole.
pub mod Stuck
pub mod Finishing
pub mod Complete
pub mod ForkLogs
