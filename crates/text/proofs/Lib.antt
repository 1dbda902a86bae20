pub mod Puts
pub mod Digits
pub mod Numerals
pub mod Lines
pub mod Told
