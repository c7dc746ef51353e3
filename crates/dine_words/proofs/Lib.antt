pub mod ChoicesLemmas
pub mod InputLemmas
pub mod OutputLemmas
pub mod WordsLemmas
