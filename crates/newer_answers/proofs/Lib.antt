pub mod KeptOnTopLemmas
pub mod OnTopLemmas
pub mod PlaceOnTopLemmas
