pub mod Times
pub mod Decisions
pub mod Answers
