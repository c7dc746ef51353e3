-- Lists of which one element is replaced.
pub mod Replaced
