pub mod AskedRange
pub mod ObjectsRefusalLines
pub mod CommitIds
pub mod ComparedObjects
