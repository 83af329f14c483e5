pub mod CheckedReplies
pub mod AskedOnce
pub mod SpelledQuestions
pub mod Check
