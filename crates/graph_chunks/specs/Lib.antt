pub mod StoredDates
pub mod GraphStoredDates
pub mod GraphDates
pub mod Latest
pub mod StoredFilters
pub mod GraphFilters
pub mod KeptFilters
