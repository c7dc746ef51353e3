-- Two joined ends by their lists alone, in whatever order their events were.
pub mod TwoEnds
pub mod JoinedEnds
pub mod ValuesByLogs
