pub mod LayerLines
pub mod Show
