pub mod Keys
pub mod FixedSets
pub mod Branches
pub mod Reached
pub mod Overlaps
