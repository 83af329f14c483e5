pub mod PathsLemmas
