-- Lists: nothing of sites.
pub mod EachOnce
