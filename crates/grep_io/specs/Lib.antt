-- what these cite of the crates below
pub use Rattle.re_trees.specs.Bytes
pub use Rattle.re_trees.specs.Lines
-- what the contract of the whole command, or of the session, rests on
pub mod Counted
pub mod Written
pub mod Buffer
pub mod File
pub mod Reading
-- what else contracts are said in: of this crate as a library, and of its private functions
pub mod Working
