pub mod ComingLemmas
pub mod TakingLemmas
pub mod AskingLemmas
pub mod ChangingLemmas
pub mod WiderLemmas
