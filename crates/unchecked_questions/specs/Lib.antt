pub mod Trusting
pub mod KeptGraphs
