-- Lists of which one element is read or written.
pub mod Lists
pub mod Seen
