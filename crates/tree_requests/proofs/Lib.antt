mod RangeLemmas
mod MapLemmas
mod StoreLemmas
mod StreamLemmas
mod AskingLemmas
