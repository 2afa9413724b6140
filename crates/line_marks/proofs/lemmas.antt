pub mod CoverLemmas
pub mod ReplaceLemmas
pub mod PlaceLemmas
pub mod TakeLemmas
pub mod RoomLemmas
