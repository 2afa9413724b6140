pub mod Tokens
pub mod Numbers
pub mod CollectedTexts
pub mod Operands
pub mod ServingMatchers
pub mod Prepared
-- what the public laws say, of known files and of two commands worked by hand
pub mod Known
pub mod Worked
