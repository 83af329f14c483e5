pub mod FilterLemmas
pub mod Murmur3Lemmas
pub mod PlaceLemmas
pub mod FiltersLemmas
