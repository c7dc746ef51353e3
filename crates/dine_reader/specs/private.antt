-- What no public contract names: what private functions promise one another.
pub mod Forms
pub mod Index
