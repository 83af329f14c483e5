pub mod Commits
pub mod RefusedGraph
