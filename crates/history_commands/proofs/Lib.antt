pub mod AskLemmas
pub mod IdLemmas
pub mod WalkLemmas
