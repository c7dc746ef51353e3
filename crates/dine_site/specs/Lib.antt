pub mod Core
pub mod Places
pub mod DoneAndClose
pub mod LinkNumbers
pub mod Standing
pub mod NextEvent
pub mod CoreWants
pub mod private
