-- what these cite of the crates below
pub use Rattle.re_syntax.specs.Bytes
pub use Rattle.re_syntax.specs.Expression
pub use Rattle.re_syntax.specs.Holds
pub use Rattle.re_syntax.specs.Parts
pub use Rattle.re_syntax.specs.Lines
pub use Rattle.re_syntax.specs.Spelled
pub use Rattle.re_search.specs.Meters
pub use Rattle.grep_io.specs.Counted
pub use Rattle.grep_io.specs.Written
pub use Rattle.grep_io.specs.Buffer
pub use Rattle.grep_io.specs.Reading
pub use Rattle.re_search.specs.Searches
-- what the contract of the whole command, or of the session, rests on
pub mod Row
pub mod Choose
pub mod Files
pub mod Options
pub mod Around
pub mod Output
pub mod Messages
pub mod Run
pub mod Sources
pub mod Cost
pub mod Matchers
-- what the public laws say of the definitions
pub mod Laws
-- what else contracts are said in: of this crate as a library, and of its private functions
pub mod Working
