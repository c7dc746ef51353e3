-- The world: the meals of its sites.
pub mod OpenedSites
