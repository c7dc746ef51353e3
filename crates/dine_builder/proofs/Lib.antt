pub mod DraftLemmas
pub mod CauseLemmas
