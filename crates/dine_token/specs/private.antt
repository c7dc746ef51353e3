-- What no public contract names: what fields say, and what private functions promise one another.
pub mod Fields
pub mod MealFields
