-- One site: how many letters it puts and takes, what it offers to the other ends, and how long an asker waits.
pub mod Offers
pub mod PutBounds
pub mod TakenBounds
pub mod CutShort
pub mod Askers
pub mod FirstBreach
