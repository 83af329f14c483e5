pub mod AnswerLines
pub mod Replies
