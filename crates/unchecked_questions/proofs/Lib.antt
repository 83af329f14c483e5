pub mod TrustingLemmas
pub mod KeptLemmas
