-- Journals: the states that they lead through, and plans whose jobs have other outcomes.
pub mod JournalStates
pub mod OtherOutcomes
pub mod Shown
