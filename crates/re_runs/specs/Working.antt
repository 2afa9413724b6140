pub mod Runs
pub mod Finders
pub mod Blocks
