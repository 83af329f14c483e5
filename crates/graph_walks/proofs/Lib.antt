pub mod GreatestLemmas
pub mod WalkPathLemmas
pub mod WalkLemmas
pub mod CountLemmas
pub mod DateLemmas
