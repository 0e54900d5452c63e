pub mod PartitionLemmas
pub mod Recording
