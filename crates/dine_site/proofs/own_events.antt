-- What a core may do by itself, by the sets that it keeps of its places.
pub mod Marked
pub mod MarkedEvents
pub mod OwnEvents
pub mod PutEvents
