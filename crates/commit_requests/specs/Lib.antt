pub mod Requested
pub mod Completion
pub mod Gathering
pub mod Placing
pub mod Dated
