pub mod Chains
pub mod PartLaws
pub mod Places
pub mod WorkedParts
pub mod WorkedPlaces
