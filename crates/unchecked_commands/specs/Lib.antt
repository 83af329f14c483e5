pub mod OnlyAnswer
pub mod TrustedReplies
