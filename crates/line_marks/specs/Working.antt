pub mod Covers
pub mod Places
pub mod Takes
