-- What no public contract names: how values are kept, and what private functions promise one another.
pub mod CallLogFields
pub mod Running
pub mod PortSteps
