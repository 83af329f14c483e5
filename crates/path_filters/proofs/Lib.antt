pub mod ListLemmas
pub mod BitLemmas
pub mod GatherLemmas
pub mod MadeLemmas
pub mod OneListLemmas
