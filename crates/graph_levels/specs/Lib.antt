pub mod ListEnds
pub mod ParentLists
pub mod SearchStates
pub mod OnTop
pub mod Searching
