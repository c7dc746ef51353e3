pub mod Calls
pub mod Causes
pub mod Forgotten
pub mod Lists
pub mod Sites
pub mod Tables
