pub mod AnswerLemmas
pub mod TreeLemmas
pub mod TouchedLemmas
pub mod WrittenLemmas
