pub mod FilePlan
