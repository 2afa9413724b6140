pub mod CountLemmas
pub mod MemoryLemmas
