pub mod Texts
pub mod Sizes
pub mod Explained
