-- what is untouched, and what is not
pub mod Stretches
-- what the contracts of private functions are stated with
pub mod Working
