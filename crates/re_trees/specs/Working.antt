pub mod Trees
pub mod Nodes
pub mod Splits
pub mod BestStretches
pub mod PutEnds
