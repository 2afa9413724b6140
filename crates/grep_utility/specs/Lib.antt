-- what these cite of the crates below
pub use Rattle.re_syntax.specs.Bytes
pub use Rattle.re_syntax.specs.Expression
pub use Rattle.re_syntax.specs.Holds
pub use Rattle.re_syntax.specs.Lines
pub use Rattle.re_syntax.specs.Spelled
pub use Rattle.grep_core.specs.Files
pub use Rattle.grep_core.specs.Meters
pub use Rattle.grep_core.specs.Run
-- what the contract of the whole command rests on
pub mod Words
pub mod Texts
pub mod Folder
pub mod Patterns
pub mod Command
-- what else contracts are said in: of this crate as a library, and of its private functions
pub mod Working
