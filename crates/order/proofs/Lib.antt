pub mod Orders
mod Ranks
