pub mod TimeSteps
pub mod CycleSteps
pub mod AcyclicSteps
pub mod FitSteps
pub mod DateSteps
pub mod ReadDates
pub mod SameHistories
