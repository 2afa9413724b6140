pub mod Same
pub mod Literals
pub mod Strings
pub mod CachedMatchers
pub mod Prefilters
pub mod Aheads
pub mod Sweeps
