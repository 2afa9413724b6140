pub mod LineHits
pub mod PageRest
