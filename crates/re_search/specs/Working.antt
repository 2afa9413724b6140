-- what the crates above cite of the crate below
pub use Rattle.re_match.specs.Working.Literals
pub mod Matchers
pub mod Blocks
pub mod Sought
pub mod LineParts
pub mod Strings
pub mod Patterns
