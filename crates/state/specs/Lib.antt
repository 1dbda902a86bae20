pub mod State
pub mod Decisions
