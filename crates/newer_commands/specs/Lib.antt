pub mod NewerRefusalLines
pub mod AskedReply
pub mod KindOver
pub mod RepliesOnTop
pub mod AskedNewer
