pub mod LayerListLemmas
pub mod PushedLayerLemmas
pub mod LayerStartLemmas
pub mod LayerSpanLemmas
pub mod PositionLemmas
pub mod GraphLemmas
