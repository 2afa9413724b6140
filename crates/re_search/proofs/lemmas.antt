-- what the crates above use of the crates below
pub use Rattle.re_match.proofs.lemmas.SameLaws
pub use Rattle.re_runs.proofs.lemmas.BlockLemmas
pub use Rattle.re_runs.proofs.lemmas.CountedBlocks
pub use Rattle.re_runs.proofs.lemmas.NextLines
pub mod PartOfBoth
pub mod OneMatcherMore
pub mod KeptMatchers
pub mod OneMatcher
pub mod SearchedBlocks
pub mod PlainLaws
pub mod LinePartsLaws
pub mod PlainStrings
pub mod ReadingLaws
