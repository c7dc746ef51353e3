-- The world: each event is one of its sites', with its letter on the link, from the start to the forks at the end.
pub mod Shapes
pub mod LinkNumbers
pub mod LinkSteps
pub mod MealFits
pub mod WorldOpened
pub mod GivenOutcomes
pub mod CanHappen
pub mod WorldSteps
pub mod WorldStepped
pub mod WorldSchedules
pub mod ForkPlaces
pub mod Whereabouts
pub mod LinkReads
pub mod ForksOut
pub mod HandsOut
pub mod MealsEnded
