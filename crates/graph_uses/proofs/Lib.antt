pub mod FindingLemmas
pub mod RefusalLemmas
pub mod SelectionLemmas
pub mod WalkingLemmas
