pub mod layers
pub mod history
pub mod lookup
pub mod check
pub mod sound
