-- Lists, sums over them, and options: nothing of sites.
pub mod Options
pub mod Counting
pub mod Finds
pub mod Forks
pub mod Turns
pub mod Sums
