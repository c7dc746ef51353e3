-- One site: all its places, what each of its steps keeps, and the order and the breaches of its letters.
pub mod Site
pub mod Shapes
pub mod SiteSteps
pub mod InHand
pub mod InOrder
pub mod BreachLaw
