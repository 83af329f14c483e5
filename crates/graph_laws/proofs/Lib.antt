pub mod OneLayerLemmas
pub mod OneFileLemmas
