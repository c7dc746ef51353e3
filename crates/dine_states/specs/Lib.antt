pub mod Orders
pub mod Ends
pub mod Reasons
pub mod Waits
pub mod Schedules
pub mod private
