-- what C keeps
pub mod Kept
pub mod Live
-- what the calls of the library take and answer
pub mod Calls
-- how a matcher is made
pub mod Made
-- what private functions keep
pub mod Working
