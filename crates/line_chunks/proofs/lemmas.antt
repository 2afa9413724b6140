-- what a crate above uses of the crate below
pub use Rattle.line_finds.proofs.lemmas.PairLaws
pub mod Joins
pub mod Sums
pub mod Pieces
pub mod Edits
pub mod Added
pub mod Columns
pub mod EndedLemmas
pub mod SeenLaws
pub mod NextLines
