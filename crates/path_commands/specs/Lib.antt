pub mod QuotedPath
pub mod PathsLines
pub mod ToldPaths
