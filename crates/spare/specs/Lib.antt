pub mod Times
pub mod Answers
pub mod Laws
