pub mod MappedLemmas
pub mod PieceLemmas
pub mod PairLaws
pub mod MarkLaws
pub mod FoundLaws
