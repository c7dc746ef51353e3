-- All sites: ports added, what each left gathered by edge, and from that the headline and the forks after a fault.
pub mod Edges
pub mod Placing
pub mod Gatherings
pub mod InSlots
pub mod Headlines
pub mod Brokens
pub mod Timings
