pub mod BaseFaultFreeLemmas
pub mod ParentFaultFreeLemmas
pub mod SoundLemmas
pub mod HeadlineLemmas
pub mod RightBelowLemmas
