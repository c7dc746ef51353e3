-- What no public contract names: what the fields of a plan say.
pub mod Fields
