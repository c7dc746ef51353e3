pub mod Log
pub mod Lawful
pub mod Periods
pub mod Fork
pub mod Meal
pub mod Values
pub mod private
