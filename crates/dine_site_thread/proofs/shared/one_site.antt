-- One site's loop: its letters at each place, its diner, and what it leaves.
pub mod Letters
pub mod AtPlaces
pub mod Obeying
pub mod Quits
pub mod Leaving
