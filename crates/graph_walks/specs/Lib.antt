pub mod Counts
pub mod History
pub mod Generations
pub mod Walks
pub mod Dates
