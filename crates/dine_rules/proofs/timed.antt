-- Journals whose events have moments: they have an order.
pub mod Merging
pub mod Counts
pub mod Orders
