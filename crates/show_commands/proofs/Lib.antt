pub mod GenerationLemmas
pub mod LinesLemmas
pub mod ShownAnswers
