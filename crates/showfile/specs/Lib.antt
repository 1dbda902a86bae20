pub mod Bytes
pub mod Rows
pub mod File
pub mod Checks
pub mod Answers
