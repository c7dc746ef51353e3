pub mod shared
mod Outcomes
mod Sets
mod Placing
mod Answering
