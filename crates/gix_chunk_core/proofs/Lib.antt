pub mod FirstFaultLemmas
pub mod FaultLemmas
pub mod HeadLemmas
pub mod RangeLemmas
pub mod TableLemmas
pub mod AlikeLemmas
