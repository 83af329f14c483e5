pub mod Bases
pub mod Comparison
pub mod Sheet
pub mod Trails
pub mod Paint
pub mod Painting
