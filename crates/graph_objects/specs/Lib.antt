pub mod Matching
pub mod Mismatches
pub mod ParentLines
pub mod Stream
pub mod OneGraph
pub mod Taking
pub mod CommitWalks
