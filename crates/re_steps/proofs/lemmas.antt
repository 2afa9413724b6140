pub mod Passing
pub mod StageLaws
pub mod PairLemmas
pub mod StateSetKeys
pub mod RowLaws
pub mod WalkLaws
pub mod LineWalks
