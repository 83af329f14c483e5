pub mod Touched
pub mod Made
pub mod Steps
