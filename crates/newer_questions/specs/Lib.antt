pub mod AskedOnTop
pub mod QuestionsOnTop
