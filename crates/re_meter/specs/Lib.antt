-- the definitions that the contract of the whole command, or of the session, rests on
pub mod Meters
