pub mod ModeLemmas
pub mod SplitLemmas
pub mod CheckLemmas
pub mod ReadLemmas
