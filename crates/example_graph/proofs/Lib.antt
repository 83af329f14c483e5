pub mod DigestFacts
pub mod FileFacts
pub mod GraphFacts
pub mod DamageFacts
pub mod DateFacts
pub mod StreamFacts
