pub mod Marks
pub mod private
