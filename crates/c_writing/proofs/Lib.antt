mod DateRoom
mod HandedIn
pub mod ParentRoom
