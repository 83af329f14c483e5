pub mod Murmur3
pub mod Filter
pub mod Key
pub mod Filters
