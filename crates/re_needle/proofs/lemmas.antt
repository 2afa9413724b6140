pub mod NeededLaws
pub mod OutlineLaws
pub mod ChoiceOutlines
pub mod NeedleLaws
pub mod BranchLaws
pub mod NeededLines
pub mod LaterStarts
