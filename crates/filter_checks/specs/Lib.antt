pub mod RightFilters
pub mod Refused
pub mod Written
