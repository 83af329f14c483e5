pub mod IdLineLemmas
