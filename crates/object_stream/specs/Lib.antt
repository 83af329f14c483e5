pub mod BatchEntry
pub mod FoundEntry
pub mod NextEntry
pub mod Reading
pub mod TypedObject
