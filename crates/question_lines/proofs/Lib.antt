pub mod LineLemmas
pub mod QuestionLemmas
