-- What no public contract names: how values are kept, and what private functions promise one another.
pub mod HandsFields
pub mod MarkedFields
pub mod PackedFields
pub mod SiteFields
pub mod OwnEvents
pub mod PlaceSteps
