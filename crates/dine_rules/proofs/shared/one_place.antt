-- One place of a site: which edge is there, the fork, the log and the value in hand, and what the site keeps.
pub mod Placed
pub mod Hands
pub mod Owned
pub mod Values
pub mod HandForks
pub mod Sent
pub mod Keeping
