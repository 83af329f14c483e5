pub mod Asked
pub mod Kept
pub mod TakenEntry
