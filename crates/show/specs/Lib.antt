pub mod Lists
pub mod Limits
pub mod Decisions
pub mod Refusals
pub mod Outcomes
pub mod Checks
pub mod Faults
