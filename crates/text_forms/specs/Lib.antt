pub mod Forms
pub mod Hex
