pub mod Places
pub mod Rows
pub mod Answers
pub mod Once
