pub mod Finds
pub mod Pieces
pub mod Pairs
pub mod Marked
