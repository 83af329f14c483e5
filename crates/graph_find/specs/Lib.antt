pub mod ReadHead
pub mod PartsRead
pub mod Bucket
pub mod Finding
pub mod LayerFinding
pub mod ChainHeads
pub mod ChainFinding
