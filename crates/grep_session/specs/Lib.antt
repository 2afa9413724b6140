-- what the definitions below use of the crates below
pub use Rattle.grep_core.specs.Files
-- what the contract of the session is stated with
pub mod Edits
pub mod Touched
pub mod Headline
-- which lines an editor has not to be told of
pub mod Marks
-- what an editor lists of a line
pub mod Listed
-- the public laws of the definitions
pub mod Laws
-- what other contracts are stated with: of this crate as a library, and of its private functions
pub mod Working
