pub mod Stands
pub mod Changes
pub mod Walk
pub mod Reads
pub mod InTurn
