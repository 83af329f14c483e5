pub mod ListedLemmas
pub mod KeptLemmas
pub mod HistoryLemmas
pub mod SourceLemmas
pub mod ContentsLemmas
pub mod FoundLemmas
pub mod AddLemmas
pub mod RankLemmas
