mod AsBox
mod AtPath
mod Called
mod Chain
mod Crossing
mod Files
mod KnownAnswers
mod KnownTree
mod OneLayer
mod ToldPath
pub mod PieceRoom
pub mod Written
