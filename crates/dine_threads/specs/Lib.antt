pub mod Gathered
pub mod Causes
pub mod Brokens
pub mod Headline
pub mod Runs
pub mod Tables
pub mod Journals
pub mod private
