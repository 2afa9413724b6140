pub mod Limited
pub mod Sent
pub mod LineReader
pub mod Held
pub mod Refilled
pub mod Handed
pub mod Numbered
