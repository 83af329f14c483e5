pub mod TakenAnew
pub mod ReadOpening
pub mod ChangingTrees
pub mod Asking
pub mod Ending
pub mod Proceeding
