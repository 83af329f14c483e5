pub mod GraphLookupLemmas
pub mod DuplicateLemmas
pub mod DistinctLemmas
pub mod FrontLemmas
pub mod IdPlaceLemmas
pub mod ElementLemmas
