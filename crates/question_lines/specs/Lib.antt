pub mod BytePlaces
pub mod InputLines
pub mod Questions
pub mod WordsLeft
