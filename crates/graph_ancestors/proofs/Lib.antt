pub mod WordLemmas
pub mod FieldLemmas
pub mod InMemoryLemmas
pub mod SearcherLemmas
