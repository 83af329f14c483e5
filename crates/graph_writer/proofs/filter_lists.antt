pub mod SumSteps
pub mod FilterSteps
pub mod FilteredSteps
pub mod SortedFilters
pub mod FilterLists
pub mod ReadFilters
