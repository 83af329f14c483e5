pub mod Kind
pub mod Oid
pub mod Digest
pub mod Inner
pub mod Hexadecimal
pub mod IdLaws
