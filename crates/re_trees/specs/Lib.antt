-- the definitions that the contract of the whole command, or of the session, rests on
pub mod Bytes
pub mod Limits
pub mod Expression
pub mod Holds
pub mod Parts
pub mod Lines
-- the definitions of the other contracts: of this crate as a library, and of its private functions
pub mod Working
