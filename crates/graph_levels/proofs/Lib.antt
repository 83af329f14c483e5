pub mod StateLemmas
pub mod SearchLemmas
pub mod DateBounds
pub mod CycleLemmas
pub mod LevelLemmas
pub mod AcyclicLemmas
pub mod ListLemmas
