pub mod Checked
pub mod RightGraph
pub mod IdAncestors
pub mod Reload
pub mod LowerStatistics
pub mod Limits
pub mod GraphComparison
