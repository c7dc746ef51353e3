pub mod LineLemmas
pub mod ReadingFaults
pub mod PlainFields
pub mod OneTable
pub mod RunLemmas
pub mod Resigning
