-- what the crates above cite of the crates below
pub use Rattle.re_auto.specs.Meters
pub use Rattle.re_auto.specs.Searches
-- what the contract of the whole command, or of the session, depends on
pub mod Reading
-- the other terms of contracts: of this crate as a library, and of its private functions
pub mod Working
