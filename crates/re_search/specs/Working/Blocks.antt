-- Blocks of whole lines: what the crates above cite of the crate below.
pub use Rattle.re_runs.specs.Working.Blocks.{HoldsOfMany, IsBlock, IsLineFrom, IsNext}
