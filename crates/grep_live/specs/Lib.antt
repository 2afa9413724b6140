-- definitions of the crates below that contracts of this one name
pub use Rattle.grep_session.specs.Edits
pub use Rattle.grep_session.specs.Marks
-- what an editor lists of a session
pub mod Hits
pub mod Changes
pub mod Follows
pub mod Rows
pub mod Reported
-- the public laws of the definitions
pub mod Laws
-- what other contracts are stated with, of private functions
pub mod Working
