-- the definitions that the contract of the whole command, or of the session, rests on
pub use Rattle.re_trees.specs.Bytes
pub use Rattle.re_trees.specs.Expression
pub use Rattle.re_trees.specs.Holds
pub use Rattle.re_trees.specs.Parts
pub use Rattle.re_trees.specs.Lines
pub mod Profile
pub mod Brackets
pub mod Intervals
pub mod Escapes
pub mod Tokens
pub mod BasicTokens
pub mod ExtendedTokens
pub mod BracketFaults
pub mod IntervalFaults
pub mod EscapeFaults
pub mod Faults
pub mod FirstFaults
pub mod Spelled
-- what the public laws say of the definitions
pub mod Laws
-- the definitions of the other contracts: of this crate as a library, and of its private functions
pub mod Working
