-- the definitions that the contract of the whole command, or of the session, rests on
pub use Rattle.re_meter.specs.Meters
pub mod Searches
-- what the public laws say of the definitions
pub mod Laws
-- the definitions of the other contracts: of this crate as a library, and of its private functions
pub mod Working
