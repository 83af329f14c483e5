pub mod HexText
pub mod OrderLemmas
pub mod DigestLemmas
pub mod Spelling
