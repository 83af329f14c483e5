pub mod ReadLemmas
pub mod BufferLemmas
pub mod AnsweredLemmas
