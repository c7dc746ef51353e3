-- What no public contract names: how values are kept, and what private functions promise one another.
pub mod BellFields
pub mod BellRule
pub mod Rule
pub mod Refusals
pub mod Parkers
