pub mod Logs
pub mod Replay
pub mod private
