pub mod IdAnswers
pub mod PathRefusals
pub mod Walking
