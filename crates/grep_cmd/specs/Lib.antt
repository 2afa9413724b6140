-- what these cite of the crates below
pub use Rattle.re_syntax.specs.Bytes
pub use Rattle.re_syntax.specs.Expression
pub use Rattle.re_syntax.specs.Holds
pub use Rattle.re_syntax.specs.Lines
pub use Rattle.re_syntax.specs.Spelled
pub use Rattle.grep_core.specs.Files
pub use Rattle.grep_core.specs.Meters
pub use Rattle.grep_core.specs.Run
pub use Rattle.script_commands.specs.Commands
-- the utility, which this crate passes on
pub use Rattle.grep_utility.specs.Words
pub use Rattle.grep_utility.specs.Texts
pub use Rattle.grep_utility.specs.Folder
pub use Rattle.grep_utility.specs.Patterns
pub use Rattle.grep_utility.specs.Command
-- what the contract of the script, or of the session, rests on
pub mod Script
pub mod Replies
-- the law over a whole script: what an editor makes of its replies
pub mod Editor
-- what else contracts are said in: of this crate as a library, and of its private functions
pub mod Working
