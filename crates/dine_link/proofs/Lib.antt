pub mod Passes
pub mod Relays
pub mod Endings
pub mod BellSteps
pub mod Stamping
