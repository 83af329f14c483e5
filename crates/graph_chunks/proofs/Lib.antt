pub mod DecodingLemmas
pub mod StoredDateLemmas
pub mod LatestLemmas
pub mod DateCheckLemmas
pub mod GraphFilterLemmas
