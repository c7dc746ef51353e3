-- Counting events: their effects, their bound, and the list of those that are enabled.
pub mod Effects
pub mod EffectBounds
pub mod Enabled
pub mod KindNumbers
pub mod Listed
pub mod Persistence
