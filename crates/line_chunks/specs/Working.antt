-- what the definitions use of the crate below
pub use Rattle.line_finds.specs.Working.Finds
pub mod Ended
pub mod Chunks
pub mod Places
pub mod Sums
pub mod Columns
