pub mod Commands
pub mod FaultLines
pub mod PlanDiners
pub mod Run
pub mod Tables
pub mod private
