pub mod Outlines
pub mod Needles
pub mod Branches
