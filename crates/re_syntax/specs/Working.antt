pub use Rattle.re_trees.specs.Working.Trees
pub mod Cursors
pub mod Ahead
pub mod IntervalSteps
pub mod BracketSteps
pub mod EscapeSteps
pub mod Counted
pub mod DuplicationSteps
pub mod BasicSteps
pub mod TokenSteps
pub mod Mirrors
pub mod ShapeSteps
pub mod Builds
-- the grammars of the standard alone, for a law
pub mod StandardIntervals
pub mod StandardBasic
pub mod StandardExtended
