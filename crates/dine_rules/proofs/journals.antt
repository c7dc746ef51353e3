-- Journals: how they grow, and the orders that put them together.
pub mod Parts
pub mod Growing
pub mod Waiting
pub mod OneOrder
pub mod EatingApart
pub mod Going
pub mod Asked
pub mod Quitting
pub mod OwnOutcomes
