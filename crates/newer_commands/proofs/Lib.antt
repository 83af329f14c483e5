pub mod BaseScanLemmas
pub mod TellLemmas
pub mod FindLemmas
pub mod AskLemmas
pub mod SearchOverLemmas
