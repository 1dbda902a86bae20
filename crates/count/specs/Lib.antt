pub mod Spans
pub mod Answers
