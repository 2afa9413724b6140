-- the terms of contracts: of this crate as a library, and of its private functions
pub mod GreatestEnds
pub mod Preceding
pub mod Groups
pub mod Closing
pub mod KeptSteps
pub mod EndTables
