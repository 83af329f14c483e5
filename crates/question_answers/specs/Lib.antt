pub mod ReadLines
pub mod Taken
pub mod AnsweredLines
