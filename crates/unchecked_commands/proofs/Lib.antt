pub mod OnlyAnswerLemmas
pub mod PartReplyLemmas
