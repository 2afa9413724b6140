pub mod Simulations
pub mod Pairs
pub mod Rows
pub mod Stages
pub mod Walks
