-- What no public contract names: what the fields of a builder say.
pub mod DraftFields
