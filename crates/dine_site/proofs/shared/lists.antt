-- Options, ranges, and lists of forks that are taken and put back.
pub mod Options
pub mod Ranges
pub mod Lists
