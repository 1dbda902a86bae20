pub mod Times
pub mod Standing
pub mod Decisions
pub mod Answers
