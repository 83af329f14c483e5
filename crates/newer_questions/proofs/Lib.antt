pub mod OnBaseLemmas
pub mod AskedLemmas
pub mod ReplyLemmas
