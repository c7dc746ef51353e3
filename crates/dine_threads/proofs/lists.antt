-- Links of one edge more, and rows of slots of which one is written.
pub mod Pairs
pub mod Writes
