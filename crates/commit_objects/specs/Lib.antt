pub mod CommitContents
pub mod Lines
pub mod Object
pub mod Time
