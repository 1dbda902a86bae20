pub mod Run
pub mod Sound
pub mod Decisions
pub mod Answers
pub mod Steps
pub mod Opening
pub mod Laws
pub mod Seats
