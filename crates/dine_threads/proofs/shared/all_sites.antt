-- All sites: what they left, brought together, an order of the journals, and the rows.
pub mod Collected
pub mod Ordered
pub mod Rows
