pub mod positions
pub mod layers
pub mod levels
pub mod filter_lists
pub mod plans
