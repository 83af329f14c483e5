pub mod AnswersOnTop
pub mod FoundOnTop
