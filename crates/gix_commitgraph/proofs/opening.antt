pub mod PathLemmas
pub mod ChainOpeningLemmas
pub mod OpenErrorLemmas
pub mod OpenedPathLemmas
pub mod InfoOpeningLemmas
pub mod Utf8Lemmas
pub mod WholeOpeningLemmas
