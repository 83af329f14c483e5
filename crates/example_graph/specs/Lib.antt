pub mod HexadecimalText
pub mod FiveCommits
pub mod FiveContents
