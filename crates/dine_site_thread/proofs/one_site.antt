-- One site's loop: each event, each meal and each fault, and what it leaves.
pub mod Turns
pub mod Working
pub mod Closes
pub mod Meals
pub mod Same
pub mod PutOff
pub mod WholeMeals
pub mod Proceeding
pub mod Ways
pub mod Checks
pub mod Stops
pub mod Ends
pub mod Times
pub mod Saying
