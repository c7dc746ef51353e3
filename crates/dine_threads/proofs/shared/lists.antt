-- Lists that are read side by side.
pub mod Zips
