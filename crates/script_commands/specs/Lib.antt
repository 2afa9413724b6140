-- what a line of a script asks for
pub mod Commands
-- what other contracts are stated with
pub mod Working
