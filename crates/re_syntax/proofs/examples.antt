pub mod BracketRows
pub mod BasicRows
pub mod ExtendedRows
pub mod RefusedRows
