-- What a core may do by itself and what it waits for, by the whole lists.
pub mod NextEvents
pub mod WantsByLists
pub mod Unwanted
