pub mod ByteLaws
pub mod RowLaws
pub mod Passed
pub mod Stops
pub mod Sizes
pub mod Readable
