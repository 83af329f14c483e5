pub mod WeakerLemmas
pub mod PartsLemmas
pub mod TellLemmas
