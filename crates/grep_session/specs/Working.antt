pub mod Kept
pub mod Sessions
pub mod Again
pub mod Effects
pub mod Report
pub mod Changed
pub mod Columns
pub mod Refusals
