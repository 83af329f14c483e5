pub mod WordSteps
pub mod PlanSteps
pub mod PlanOfSteps
pub mod PlanForSteps
pub mod ViewSteps
pub mod UniqueSteps
pub mod ReorderedSteps
pub mod ThreeNumbers
