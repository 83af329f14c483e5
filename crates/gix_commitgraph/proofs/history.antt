pub mod HistoryLemmas
pub mod KnownParentLemmas
pub mod IdWalkLemmas
pub mod ParentSumLemmas
