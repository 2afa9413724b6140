pub mod LineWords
pub mod ReadCommands
