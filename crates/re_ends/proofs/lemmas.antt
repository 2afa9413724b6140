-- lemmas by subject
pub mod EndLaws
pub mod FoundEnds
pub mod PrecedingLaws
pub mod ClosingLaws
pub mod GroupLaws
pub mod ListLaws
pub mod KeptLaws
pub mod TableLaws
