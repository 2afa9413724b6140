pub mod Answered
pub mod Reported
