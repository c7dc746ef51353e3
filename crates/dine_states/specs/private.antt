pub mod ScheduleFields
pub mod ReasonsAtEnds
