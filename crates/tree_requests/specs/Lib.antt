pub mod TreeStream
pub mod TakenTree
pub mod StoredTrees
pub mod TreeRefusal
pub mod Asking
