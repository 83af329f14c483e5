pub mod FoundOf
