-- One place of a site: its fork and its token over plain numbers, and the chain of the logs put and taken.
pub mod Held
pub mod Chains
