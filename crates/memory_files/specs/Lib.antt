-- files in memory, for tests alone
pub mod Working
