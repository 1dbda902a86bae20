pub mod Ascii
pub mod Decimal
pub mod Numerals
pub mod Lines
pub mod Puts
pub mod Told
