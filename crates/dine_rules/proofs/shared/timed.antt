-- Journals whose events have moments: their order, if jobs fail as the journals show.
pub mod OrdersShown
