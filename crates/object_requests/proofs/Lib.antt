mod KeptLemmas
mod TakenLemmas
