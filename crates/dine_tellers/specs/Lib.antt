pub mod Balances
pub mod Tellers
