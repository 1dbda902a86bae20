pub mod Numbers
pub mod Bytes
