pub mod shared
pub mod WordMarks
