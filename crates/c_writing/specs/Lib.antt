pub mod HandedIn
pub mod SaidCommits
pub mod ToldDates
pub mod ToldWrite
