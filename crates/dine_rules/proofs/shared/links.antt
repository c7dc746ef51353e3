-- All sites of a reached world: the letters between two ends, one fork and one token for each edge, and the next
-- letter.
pub mod Across
pub mod WorldStreams
pub mod Joined
pub mod Links
pub mod EdgeSums
pub mod Near
pub mod NextLetters
pub mod Eaters
pub mod EatersApart
