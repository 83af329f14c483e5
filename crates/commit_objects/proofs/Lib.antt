pub mod LineLemmas
pub mod ParentLemmas
pub mod TimeLemmas
pub mod WrittenLemmas
