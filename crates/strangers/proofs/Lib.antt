pub mod AwayLemmas
pub mod NameLemmas
pub mod StaysLemmas
pub mod GuardedLemmas
pub mod ToldLemmas
pub mod WithinLemmas
pub mod KeptOffLemmas
